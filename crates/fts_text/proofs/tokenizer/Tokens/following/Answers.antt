use Rattle.std.proofs.Common.{◌≡◌, sym, ◌∙◌, arith}
use Rattle.fts_text.specs.declared.tokenizer.Tokens.{Tokens}
use Rattle.fts_text.specs.Places.{YieldsSpan, following_left}
use Rattle.fts_text.proofs.PlaceLemmas.{behind-other, behind-same, following_left-end, following_left-next, following_left-none}
use Rattle.fts_text.proofs.tokenizer.Tokens.following.Goals as goal
use Rattle.std.specs.Prelude.{None}
use Rattle.fts_text.specs.Tokens.{behind_spans}

-- if no span is left, the next text's first number is known
ended : (all s t : Tokens) → following_left s ≡ following_left all → YieldsSpan s None t → following_left all ≡ behind_spans t.first t.next_position
ended all s t is h = sym is ∙ sym (following_left-none s t h) ∙ following_left-end t h.1

pub loop-preserved : goal.loop-preserved
loop-preserved c = following_left-next c.loop.self c.next_span.new.self c.in-Some.field-0 c.in-Some.ensures ∙ c.loop.invariant

pub overflow_add-result : goal.overflow_add-result
overflow_add-result c =
    let t = c.next_span.new.self in
    let is = ended c.args.self c.loop.self t c.loop.invariant c.in_default.ensures ∙ behind-other t.first t.next_position (λ e. omega (arith, e)) in
    omega (arith, is, c.requires)

pub returns-then-self : goal.returns-then-self
returns-then-self c =
    let t = c.next_span.new.self in
    sym (ended c.args.self c.loop.self t c.loop.invariant c.in_default.ensures ∙ behind-same t.first t.next_position (omega arith))

pub returns-else-self : goal.returns-else-self
returns-else-self c =
    let t = c.next_span.new.self in
    sym (ended c.args.self c.loop.self t c.loop.invariant c.in_default.ensures ∙ behind-other t.first t.next_position (λ e. omega (arith, e)))
