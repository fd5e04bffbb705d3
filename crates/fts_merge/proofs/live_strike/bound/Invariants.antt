use Rattle.std.proofs.Common.{◌≡◌, take}
use Rattle.fts_merge.specs.Internals.Deletes.{bound_of}
use Rattle.fts_merge.proofs.live_strike.bound.Given as goal

abbrev pub invariant-loop-op : goal.invariant-loop-op
invariant-loop-op l = l.bound ≡ bound_of (take l.op-index l.ops)
