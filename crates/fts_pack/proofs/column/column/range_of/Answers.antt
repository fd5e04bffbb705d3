use Rattle.std.proofs.Common.{arith, ◌≡◌, ◌++◌, ◌∷◌, [], ◌∙◌, Some, None, take, ap, ◌+◌}
use Rattle.std.proofs.lemmas.List.{take_more}
use Rattle.fts_pack.proofs.ColumnLemmas.{IsRangeOf-missing, IsRangeOf-present, range_with-fits}
use Rattle.fts_pack.proofs.column.column.range_of.Goals as goal
use Rattle.fts_pack.proofs.column.column.range_of.Goals.{in-Some, in_default}

pub loop-value-preserved : goal.loop-value-preserved
loop-value-preserved c =
    let values = c.args.values.now in
    let index = c.loop-value.value-index in
    let more = take_more values index None c.loop-value-test.true in
    elim c.match-value.branch [
      | in-Some w ↦ (let front : take (index + 1) values ≡ take index values ++ Some w.in-Some.value ∷ [] = more ∙ ap (λ v. take index values ++ v ∷ [])
          w.in-Some.is in
          rw (front, w.range-is, w.widened.ensures) (
            IsRangeOf-present (take index values) c.loop-value.range w.in-Some.value c.loop-value.invariant.0,
            range_with-fits c.loop-value.range w.in-Some.value c.loop-value.invariant.1 (omega arith),
          ))
      | in_default w ↦ (let front : take (index + 1) values ≡ take index values ++ None ∷ [] = more ∙ ap (λ v. take index values ++ v ∷ []) w.in_default.is in
          rw (front, w.range-is) (IsRangeOf-missing (take index values) c.loop-value.range c.loop-value.invariant.0, c.loop-value.invariant.1))
    ]
