use Rattle.std.proofs.Common.{◌≡◌, ◌*◌, take, drop}
use Rattle.fts_pack.specs.ListRef.{listed}
use Rattle.fts_pack.specs.Documents.{blocks_of}
use Rattle.fts_pack.specs.ListSource.{documents_in}
use Rattle.fts_segment.specs.Parts.{moved}
use Rattle.fts_segment.specs.Postings.{postings_of}
use Rattle.fts_segment.specs.Puts.{Puts}
use Rattle.fts_positions.specs.PositionCopiers.{lists_in}
use Rattle.fts_segment.proofs.copy_postings.copy_postings.Given as goal

abbrev pub invariant-loop-block : goal.invariant-loop-block
invariant-loop-block l = record {
  source : blocks_of (documents_in l.source) ≡ blocks_of (listed l.list);
  same : lists_in l.lists ≡ lists_in l.fn.lists;
  puts : Puts (moved l.numbers (postings_of (take (l.block * 128) (listed l.list)) (drop l.start (lists_in l.fn.lists)))) l.fn.docs.items l.fn.log l.docs.items
      l.log;
}
