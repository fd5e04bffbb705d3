use Rattle.std.proofs.Common.{◌≡◌}
use Rattle.fts_segment.specs.Heads.{head}
use Rattle.fts_segment.proofs.names.head_of.Given as goal

abbrev pub invariant-loop-place : goal.invariant-loop-place
invariant-loop-place l = l.head ≡ head l.place l.name
