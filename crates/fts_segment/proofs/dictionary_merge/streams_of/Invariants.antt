use Rattle.std.proofs.Common.{◌≡◌, ◌+◌, All, take, drop}
use Rattle.fts_segment.specs.Occurrences.{values_in, HasFewTokens}
use Rattle.fts_segment.specs.Parts.{AreParts}
use Rattle.fts_segment.specs.Sources.{HasBits, live_count}
use Rattle.fts_segment.proofs.dictionary_merge.streams_of.Given as goal

abbrev pub invariant-loop-source : goal.invariant-loop-source
invariant-loop-source l = record {
  next : l.next ≡ live_count (take l.source-index l.sources);
  left : l.next + live_count (drop l.source-index l.sources) ≡ live_count l.sources;
  are : AreParts l.kind l.field 0 (take l.source-index l.sources) l.parts.items;
  few : All (λ source. All (HasFewTokens l.kind) (values_in l.field source.segment.documents)) (take l.source-index l.sources);
  bits : All HasBits (take l.source-index l.sources);
}
