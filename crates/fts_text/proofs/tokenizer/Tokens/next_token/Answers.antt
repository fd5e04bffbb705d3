use Rattle.std.proofs.Common.{sym, ◌∙◌}
use Rattle.fts_text.proofs.PlaceLemmas.{following_left-next, following_left-none, places_left-kept, places_left-dropped, places_left-none}
use Rattle.fts_text.proofs.tokenizer.Tokens.next_token.Goals as goal

pub returns-then-span-lt-LIMIT-clause-steps : goal.returns-then-span-lt-LIMIT-clause-steps
returns-then-span-lt-LIMIT-clause-steps c =
    sym c.loop-span.invariant.places ∙ places_left-kept c.loop-span.self c.next_span.new.self c.in-Some.span c.in-Some.ensures c.if-span-lt-LIMIT.true

pub returns-then-span-lt-LIMIT-clause-following : goal.returns-then-span-lt-LIMIT-clause-following
returns-then-span-lt-LIMIT-clause-following c =
    following_left-next c.loop-span.self c.next_span.new.self c.in-Some.span c.in-Some.ensures ∙ c.loop-span.invariant.following

pub loop-span-preserved : goal.loop-span-preserved
loop-span-preserved c = record {
  places = sym (places_left-dropped c.loop-span.self c.next_span.new.self c.in-Some.span c.in-Some.ensures c.if-span-lt-LIMIT.false)
      ∙ c.loop-span.invariant.places;
  following = following_left-next c.loop-span.self c.next_span.new.self c.in-Some.span c.in-Some.ensures ∙ c.loop-span.invariant.following;
}

pub returns-clause-steps : goal.returns-clause-steps
returns-clause-steps c =
    (sym c.loop-span.invariant.places ∙ places_left-none c.loop-span.self c.in_default.ensures.0, places_left-none c.next_span.new.self c.in_default.ensures.1)

pub returns-clause-following : goal.returns-clause-following
returns-clause-following c = following_left-none c.loop-span.self c.next_span.new.self c.in_default.ensures ∙ c.loop-span.invariant.following
