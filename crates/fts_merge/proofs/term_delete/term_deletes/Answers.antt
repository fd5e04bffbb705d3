use Rattle.std.proofs.Common.{[], List, take, subst, sym}
use Rattle.fts_model.specs.declared.operation.Op.{Op}
use Rattle.fts_model.specs.declared.operation.Stamped.{Stamped}
use Rattle.fts_merge.specs.Internals.Deletes.{StrikeAlike}
use Rattle.fts_merge.proofs.term_delete.term_deletes.Goals as goal
use Rattle.fts_model.proofs.Lists.{taken}

pub loop-op-preserved : goal.loop-op-preserved
loop-op-preserved c =
    let s = c.args.segment.now in
    let ops = c.args.ops.now in
    let i = c.loop-op.op-index in
    let P : List (Stamped Op) → Type 0 = λ os. StrikeAlike s.schema c.push_found.new.deletes.items os s.documents in
    record {
      are = c.in_ok-push_found.ensures.are;
      alike = subst P (sym (taken ops i c.op-item.result c.loop-op-test.true c.op-item.is))
          (c.in_ok-push_found.ensures.alike (take i ops) c.loop-op.invariant.alike);
    }
