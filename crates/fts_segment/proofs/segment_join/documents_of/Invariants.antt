use Rattle.std.proofs.Common.{◌≡◌, ◌++◌, All, drop, take}
use Rattle.fts_segment.specs.Segments.{AllFit, AreDocuments}
use Rattle.fts_segment.specs.Sources.{contents}
use Rattle.fts_segment.proofs.segment_join.documents_of.Given as goal

abbrev pub invariant-loop-source : goal.invariant-loop-source
invariant-loop-source l = record {
  taken : l.documents.items ++ contents (drop l.source-index l.sources) ≡ contents l.sources;
  fit : All (λ source. AllFit source.segment.schema source.segment.documents) (take l.source-index l.sources);
  are : All (λ source. AreDocuments source.segment.documents) (take l.source-index l.sources);
}
