use Rattle.std.proofs.Common.{◌≡◌, ◌+◌, All, take, drop}
use Rattle.fts_segment.specs.Sources.{HasBits, live_count}
use Rattle.fts_segment.proofs.dictionary_merge.live_docs.Given as goal

abbrev pub invariant-loop-source : goal.invariant-loop-source
invariant-loop-source l = record {
  counted : l.docs ≡ live_count (take l.source-index l.sources);
  left : l.docs + live_count (drop l.source-index l.sources) ≡ live_count l.sources;
  bits : All HasBits (take l.source-index l.sources);
}
