use Rattle.std.proofs.Common.{◌≡◌, ◌<◌, ◌≤◌, ◌+◌, ◌&&◌, Bool, true, false, not, [], length, get_or, drop, refl, sym, ap, ◌∙◌, arith}
use Rattle.std.specs.Cmp.Lexicographic.{pointwise}
use Rattle.std.specs.Str.{bytes_eq}
use Rattle.std.proofs.lemmas.List.{drop_all}
use Rattle.std.proofs.lemmas.Bool.{not-false, not-true}
use Rattle.fts_model.proofs.TextsLemmas.{pointwise-step}
use Rattle.fts_model.proofs.texts.TextsPartialEq.eq.Goals as goal

pub returns-then-ne : goal.returns-then-ne
returns-then-ne c =
    let xs = c.args.self.now in
    let ys = c.args.other.now in
    let n = c.loop-number.number in
    let h : n < length xs = omega (arith, c.loop-number-test.true, c.len-number-end.ensures) in
    let l : n < length ys = omega (arith, h, c.if-len.false, c.len.ensures, c.len-2.ensures) in
    let apart : bytes_eq (get_or xs n []) (get_or ys n []) ≡ false =
    ap (λ x. bytes_eq x (get_or ys n [])) (sym c.get.ensures) ∙ ap (bytes_eq c.get.result.now) (sym c.get-in-loop-number.ensures)
    ∙ not-true _ (sym c.ne.ensures ∙ c.if-ne.true) in
    sym (sym c.loop-number.invariant ∙ pointwise-step xs ys n h l ∙ ap (λ b. b && pointwise bytes_eq (drop (n + 1) xs) (drop (n + 1) ys)) apart)

pub loop-number-preserved : goal.loop-number-preserved
loop-number-preserved c =
    let xs = c.args.self.now in
    let ys = c.args.other.now in
    let n = c.loop-number.number in
    let h : n < length xs = omega (arith, c.loop-number-test.true, c.len-number-end.ensures) in
    let l : n < length ys = omega (arith, h, c.if-len.false, c.len.ensures, c.len-2.ensures) in
    let same : bytes_eq (get_or xs n []) (get_or ys n []) ≡ true =
    ap (λ x. bytes_eq x (get_or ys n [])) (sym c.get.ensures) ∙ ap (bytes_eq c.get.result.now) (sym c.get-in-loop-number.ensures)
    ∙ not-false _ (sym c.ne.ensures ∙ c.if-ne.false) in
    sym (pointwise-step xs ys n h l ∙ ap (λ b. b && pointwise bytes_eq (drop (n + 1) xs) (drop (n + 1) ys)) same) ∙ c.loop-number.invariant

pub returns : goal.returns
returns c =
    let xs = c.args.self.now in
    let ys = c.args.other.now in
    let n = c.loop-number.number in
    let done : length xs ≤ n = omega (arith, c.loop-number-test.false, c.len-number-end.ensures) in
    let over : length ys ≤ n = omega (arith, done, c.if-len.false, c.len.ensures, c.len-2.ensures) in
    sym (sym c.loop-number.invariant ∙ ap (λ us. pointwise bytes_eq us (drop n ys)) (drop_all n xs done) ∙ ap (pointwise bytes_eq []) (drop_all n ys over))
