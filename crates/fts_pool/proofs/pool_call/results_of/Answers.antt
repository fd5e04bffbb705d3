-- The next job's result follows.
use Rattle.std.proofs.Common.{rules, arith}
use Rattle.fts_pool.proofs.ZipLemmas.{zip_more}
use Rattle.fts_pool.proofs.pool_call.results_of.Goals as goal

pub loop-number-preserved : goal.loop-number-preserved
loop-number-preserved g c =
    let was = c.loop-number.invariant in
    let longer = c.push_reserved.ensures.len in
    record {
      count = omega arith;
      room = search rules;
      right =
          rw c.push_reserved.ensures.items (zip_more (λ slot out. g.J.Job.gives slot.job out) c.args.slots.now c.loop-number.outs.items c.loop-number.number
          c.result_of.result c.loop-number-test.true was.right c.result_of.ensures);
    }
