-- A word more is counted.
use Rattle.std.proofs.Common.{◌^◌, ◌<◌, get_or, arith, rules}
use Rattle.fts_sets.proofs.RowLemmas.{length-more, ones-few}
use Rattle.fts_sets.proofs.rows.ones.Goals as goal

pub loop-place-preserved : goal.loop-place-preserved
loop-place-preserved c =
    let l = c.loop-place in
    let word = get_or c.args.row.now l.place 0 in
    let fits : word < 2 ^ 64 = search rules in
    record {
      few = omega (arith, l.invariant.few, ones-few word fits);
      counted = λ test from is.
          omega (arith, l.invariant.counted test from is, length-more test from l.place word (is l.place (omega arith)) fits);
    }
