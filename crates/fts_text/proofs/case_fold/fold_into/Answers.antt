use Rattle.std.proofs.Common.{◌≡◌, ◌≤◌, List, ◌++◌, length, take, sym, ap, subst, ◌∙◌, arith, length-append, append-nil, ℕ}
use Rattle.std.proofs.lemmas.Str.{IsUtf8-string_bytes, IsUtf8-past_char, IsCharBoundary-from_take}
use Rattle.std.specs.Char.{encode_utf8}
use Rattle.std.specs.Str.{chars, IsUtf8}
use Rattle.std.specs.Str.Iter.{chars_rest}
use Rattle.std.specs.String.{string_bytes}
use Rattle.fts_text.specs.Characters.{fold_chars, folded}
use Rattle.fts_text.proofs.FoldLemmas.{fold_chars-empty, fold_chars-step, length-fold_chars-step, begins-step}
use Rattle.fts_text.proofs.case_fold.fold_into.Goals as goal

pub truncate-requires : goal.truncate-requires
truncate-requires c = λ within.
    let bytes = string_bytes c.push.new.self in
    let begins : take c.len-len.result bytes ≡ string_bytes c.args.out.now = ap (take c.len-len.result) c.in-Err.ensures.bytes ∙ c.loop-c.invariant.2.begins in
    let inside : c.len-len.result ≤ length bytes = omega (arith, c.push.new.self.bytes.ok.0) in
    let front = let P : List ℕ → Type 0 = IsUtf8 in subst P (sym begins) (IsUtf8-string_bytes c.args.out.now) in
    let boundary = IsCharBoundary-from_take bytes c.len-len.result (IsUtf8-string_bytes c.push.new.self) inside front in
    (inside, λ _. boundary.1)

pub returns-in-Err-clause-full : goal.returns-in-Err-clause-full
unfolding folded
returns-in-Err-clause-full c =
    let kept = c.loop-c.invariant.2 in
    let fits = length-fold_chars-step (chars_rest c.loop-c.c-iterator) (chars_rest c.next.new.self) (string_bytes c.loop-c.out)
    (string_bytes c.args.out.now ++ fold_chars (chars c.args.span.now)) c.in-Some.c c.fold_char.result kept.text c.in-Some.ensures.steps.0
    c.fold_char.ensures kept.whole in
    let both = length-append (string_bytes c.args.out.now) (fold_chars (chars c.args.span.now)) in
    let full = c.in-Err.ensures.full in
    omega (arith, kept.capacity, c.args.out.now.bytes.ok.0, c.loop-c.out.bytes.ok.0)

pub loop-c-preserved : goal.loop-c-preserved
loop-c-preserved c =
    let kept = c.loop-c.invariant.2 in
    let before = chars_rest c.loop-c.c-iterator in
    let after = chars_rest c.next.new.self in
    let begins = c.in-Some.ensures.steps.0 in (
      tt,
      tt,
      record {
        text = IsUtf8-past_char before after c.in-Some.c kept.text begins;
        begins = begins-step (string_bytes c.loop-c.out) (encode_utf8 c.fold_char.result) (string_bytes c.push.new.self) (string_bytes c.args.out.now)
            c.len-len.result kept.begins (omega (arith, c.args.out.now.bytes.ok.0)) c.in_default.ensures.bytes;
        whole = fold_chars-step before after (string_bytes c.loop-c.out) (string_bytes c.push.new.self) _ c.in-Some.c c.fold_char.result kept.text begins
            c.fold_char.ensures c.in_default.ensures.bytes kept.whole;
        capacity = omega (arith, kept.capacity, c.in_default.ensures.capacity);
      },
    )

pub returns-clause-ok : goal.returns-clause-ok
unfolding folded
returns-clause-ok c =
    let none = fold_chars-empty (chars_rest c.loop-c.c-iterator) c.in-None.ensures.steps.0.0 in
    sym (append-nil (string_bytes c.loop-c.out)) ∙ ap (λ l. string_bytes c.loop-c.out ++ l) (sym none) ∙ c.loop-c.invariant.2.whole
