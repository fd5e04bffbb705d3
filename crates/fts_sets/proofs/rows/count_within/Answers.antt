-- A word more is counted.
use Rattle.std.proofs.Common.{◌≡◌, ◌<◌, ◌+◌, ◌-◌, ◌*◌, ◌^◌, ◌&&◌, ℕ, Bool, bit_and, length, ap, subst, ◌∙◌, arith, rules}
use Rattle.fts_pack.proofs.BitsLemmas.{word_bit}
use Rattle.fts_postings.specs.Windows.{is_set, passing}
use Rattle.fts_sets.specs.Leaves.{has_within}
use Rattle.fts_sets.specs.Rows.{Tells}
use Rattle.fts_sets.proofs.RowLemmas.{length-more, ones-few, word-met}
use Rattle.fts_sets.proofs.rows.count_within.Goals as goal

pub loop-place-preserved : goal.loop-place-preserved
loop-place-preserved c =
    let l = c.loop-place in
    let test : ℕ → Bool = λ d. has_within c.args.low c.args.high c.args.column.now d && is_set c.args.bits.now d in
    let from = 64 * c.args.index in
    let k = l.place - c.args.index in
    let marks = c.marks_within.result in
    let word = bit_and marks c.word.result in
    let fits : word < 2 ^ 64 = search rules in
    let at : 64 * l.place ≡ from + 64 * k = omega (arith, l.auto.place) in
    let here : Tells test (64 * l.place) word = λ j inside.
    word-met (is_set c.args.bits.now) (64 * l.place) marks c.word.result (λ i within. word_bit c.args.bits.now (64 * l.place) c.word.result i c.word.ensures within) j inside
    ∙ ap (λ b. b && is_set c.args.bits.now (64 * l.place + j)) (c.marks_within.ensures j inside) in
    let more = length-more test from k word (subst (λ n. Tells test n word) at here) fits in
    let before : 64 * l.place - from ≡ 64 * k = omega (arith, at) in
    let after : 64 * (l.place + 1) - from ≡ 64 * (k + 1) = omega (arith, at) in
    record {
      stop = omega (arith, c.loop-place-test.true);
      few = omega (arith, l.invariant.few, ones-few word fits, at);
      counted = omega (arith, l.invariant.counted, more, ap (λ n. length (passing test from n)) before, ap (λ n. length (passing test from n)) after);
    }

pub returns : goal.returns
returns c =
    let l = c.loop-place in
    let test : ℕ → Bool = λ d. has_within c.args.low c.args.high c.args.column.now d && is_set c.args.bits.now d in
    let from = 64 * c.args.index in
    let same : 64 * l.place - from ≡ 64 * c.args.end - from = omega (arith, l.invariant.stop, c.loop-place-test.false) in
    l.invariant.counted ∙ ap (λ n. length (passing test from n)) same
