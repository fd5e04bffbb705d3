use Rattle.std.proofs.Common.{◌≡◌, ◌+◌, ◌++◌, ◌*◌, map, take}
use Rattle.fts_pack.specs.ListRef.{listed}
use Rattle.fts_pack.specs.Documents.{blocks_of}
use Rattle.fts_pack.specs.ListSource.{documents_in}
use Rattle.fts_segment.proofs.copy_postings.copy_shifted.Given as goal

abbrev pub invariant-loop-block : goal.invariant-loop-block
invariant-loop-block l = record {
  source : blocks_of (documents_in l.source) ≡ blocks_of (listed l.list);
  docs : l.docs.items ≡ l.fn.docs.items ++ map (λ doc. l.first + doc) (take (l.block * 128) (listed l.list));
}
