-- The rest of the proof of `commits::segment_of_add::adds_in`.
use Rattle.std.proofs.Common.{true, false, sym, ◌∙◌, arith}
use Rattle.fts_snapshots.proofs.EntryLemmas.{length-added_more}
use Rattle.fts_snapshots.proofs.commits.segment_of_add.adds_in.Goals as goal
use Rattle.fts_snapshots.proofs.commits.segment_of_add.adds_in.Goals.{then-is_add, else-is_add}

pub loop-op-preserved : goal.loop-op-preserved
loop-op-preserved c =
    let l = c.loop-op in
    let op = c.op-item.result in
    elim c.if-is_add.branch [
      | then-is_add w ↦
          let more = length-added_more c.args.ops.now l.op-index op true c.loop-op-test.true c.op-item.is (sym c.is_add.ensures ∙ w.if-is_add.true) in
          record { counted = omega (arith, w.adds-is, l.invariant.counted, more); few = omega (arith, w.adds-is, l.invariant.few) }
      | else-is_add w ↦
          let more = length-added_more c.args.ops.now l.op-index op false c.loop-op-test.true c.op-item.is (sym c.is_add.ensures ∙ w.if-is_add.false) in
          record { counted = omega (arith, w.adds-is, l.invariant.counted, more); few = omega (arith, w.adds-is, l.invariant.few) }
    ]
