-- One part more, with its cost.
use Rattle.std.proofs.Common.{◌-◌, ◌^◌, ◌≤◌, length, min, arith}
use Rattle.fts_cursor.proofs.BoolHits.{paired_more}
use Rattle.fts_cursor.proofs.CostLemmas.{rise_more}
use Rattle.fts_cursor.proofs.query_tree.costs_of.Goals as goal

pub loop-part-preserved : goal.loop-part-preserved
loop-part-preserved c = record {
  bounds =
      rw c.in_ok-push.ensures.items (paired_more (λ cost part. min (2 ^ 64 - 1) (length part.remaining) ≤ cost) c.loop-part.costs.items c.args.parts.now
      c.loop-part.part-index c.cost.result c.part-item.result c.loop-part.invariant.bounds c.loop-part-test.true c.part-item.is c.cost.ensures.bound);
  rise = rise_more c.args.parts.now c.loop-part.part-index c.part-item.result c.loop-part.invariant.rise c.loop-part-test.true c.part-item.is
      c.cost.ensures.rises;
}

pub returns-clause-rise : goal.returns-clause-rise
returns-clause-rise c = λ k d inside. c.loop-part.invariant.rise k d (omega (arith, inside))
