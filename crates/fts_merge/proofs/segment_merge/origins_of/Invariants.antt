use Rattle.std.proofs.Common.{◌≡◌, ◌++◌, All, drop, take}
use Rattle.fts_segment.specs.Sources.{HasBits}
use Rattle.fts_merge.specs.Merges.{origins_from}
use Rattle.fts_merge.proofs.segment_merge.origins_of.Given as goal

abbrev pub invariant-loop-number : goal.invariant-loop-number
invariant-loop-number l = record {
  told : l.origins.items ++ origins_from l.number (drop l.number l.sources) ≡ origins_from 0 l.sources;
  bits : All HasBits (take l.number l.sources);
}
