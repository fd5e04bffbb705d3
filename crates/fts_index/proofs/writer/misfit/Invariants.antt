use Rattle.std.proofs.Common.{◌≡◌, drop}
use Rattle.fts_snapshots.specs.Commits.{misfit}
use Rattle.fts_index.proofs.writer.misfit.Given as goal

-- what is wrong comes later
abbrev pub invariant-loop-op : goal.invariant-loop-op
invariant-loop-op l = misfit l.schema (drop l.op-index l.ops) ≡ misfit l.schema l.ops
