use Rattle.std.proofs.Common.{◌≡◌, ◌*◌, take}
use Rattle.fts_pack.specs.ListRef.{listed}
use Rattle.fts_pack.specs.Documents.{blocks_of}
use Rattle.fts_pack.specs.ListSource.{documents_in}
use Rattle.fts_segment.specs.Keywords.{with_ordinal}
use Rattle.fts_segment.proofs.keyword_index.set_ordinals_of.Given as goal

abbrev pub invariant-loop-block : goal.invariant-loop-block
invariant-loop-block l = record {
  source : blocks_of (documents_in l.source) ≡ blocks_of (listed l.list);
  set : l.ordinals ≡ with_ordinal l.ordinal l.fn.ordinals (take (l.block * 128) (listed l.list));
}
