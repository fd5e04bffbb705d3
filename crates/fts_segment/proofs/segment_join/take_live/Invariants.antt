use Rattle.std.proofs.Common.{◌≡◌, ◌++◌, drop}
use Rattle.fts_segment.specs.Contents.{content_of, where_set}
use Rattle.fts_segment.proofs.segment_join.take_live.Given as goal

abbrev pub invariant-loop-document : goal.invariant-loop-document
invariant-loop-document l = l.documents.items ++ where_set (drop l.document l.source.segment.documents) (drop l.document l.source.live) ≡ l.fn.documents.items
    ++ content_of l.source.segment l.source.live
