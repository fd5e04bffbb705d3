-- There is a result for each job so far.
use Rattle.std.proofs.Common.{◌≡◌, ◌≤◌, length, take, vec_len}
use Rattle.std.specs.List.{AllZip}
use Rattle.std.specs.Vec.{vec_capacity}
use Rattle.fts_pool.proofs.pool_call.results_of.Given as goal

abbrev pub invariant-loop-number : goal.invariant-loop-number
invariant-loop-number g l = record {
  count : vec_len l.outs ≡ l.number;
  room : length l.slots ≤ vec_capacity l.outs;
  right : AllZip (λ slot out. g.J.Job.gives slot.job out) (take l.number l.slots) l.outs.items;
}
