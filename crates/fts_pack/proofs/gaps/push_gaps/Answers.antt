use Rattle.std.proofs.Common.{◌≡◌, suc, ◌+◌, ◌-◌, ◌++◌, ◌∷◌, [], drop, length, ap, sym, ◌∙◌, append_assoc, arith}
use Rattle.std.proofs.lemmas.List.{drop_more}
use Rattle.fts_pack.specs.Documents.{gaps}
use Rattle.fts_pack.proofs.DocumentsLemmas.{next_gap}
use Rattle.fts_pack.proofs.gaps.push_gaps.Goals as goal

pub overflow_sub-from : goal.overflow_sub-from
overflow_sub-from c =
    let g = next_gap c.args.rising.now c.loop-number.number-index c.loop-number.next c.from.result c.loop-number-test.true c.from.ensures
    c.loop-number.invariant.1 in
    g.above

pub loop-number-preserved : goal.loop-number-preserved
loop-number-preserved c =
    let number = c.from.result in
    let g = next_gap c.args.rising.now c.loop-number.number-index c.loop-number.next number c.loop-number-test.true c.from.ensures c.loop-number.invariant.1 in
    let same : c.from-next.result ≡ number = c.from-next.ensures ∙ sym c.from.ensures in
    let less : length (drop c.loop-number.number-index c.args.rising.now) ≡ suc (length (drop (c.loop-number.number-index + 1) c.args.rising.now)) =
    ap length (drop_more c.args.rising.now c.loop-number.number-index 0 c.loop-number-test.true) in
    let rest = gaps (number + 1) (drop (c.loop-number.number-index + 1) c.args.rising.now) in
    rw same (
      ap (λ xs. xs ++ rest) c.push_reserved.ensures.items ∙ append_assoc c.loop-number.numbers.items ((number - c.loop-number.next) ∷ []) rest
          ∙ ap (λ xs. c.loop-number.numbers.items ++ xs) (sym g.gaps_are) ∙ c.loop-number.invariant.0,
      g.rises,
      omega (arith, c.push_reserved.ensures.len, c.push_reserved.ensures.capacity, c.loop-number.invariant.2, less),
    )
