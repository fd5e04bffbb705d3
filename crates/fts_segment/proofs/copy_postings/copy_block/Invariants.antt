use Rattle.std.proofs.Common.{◌≡◌, take, drop}
use Rattle.fts_segment.specs.Parts.{moved}
use Rattle.fts_segment.specs.Postings.{postings_of}
use Rattle.fts_segment.specs.Puts.{Puts}
use Rattle.fts_positions.specs.PositionCopiers.{lists_in}
use Rattle.fts_segment.proofs.copy_postings.copy_block.Given as goal

abbrev pub invariant-loop-index : goal.invariant-loop-index
invariant-loop-index l = record {
  same : lists_in l.lists ≡ lists_in l.fn.lists;
  puts : Puts (moved l.numbers (postings_of (take l.index l.block) (drop l.start (lists_in l.fn.lists)))) l.fn.docs.items l.fn.log l.docs.items l.log;
}
