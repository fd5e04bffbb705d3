use Rattle.std.proofs.Common.{All}
use Rattle.fts_pack.specs.ListRange.{lists_in_range}
use Rattle.fts_segment.specs.Segments.{column}
use Rattle.fts_collect.specs.Internals.Walks.{AllFound, IsBetween}
use Rattle.fts_collect.proofs.walk.listed_between.Given as goal

abbrev pub invariant-loop-index : goal.invariant-loop-index
invariant-loop-index l = record {
  sound : All (IsBetween (column l.segment l.field) l.hits l.low l.high) l.found.items;
  whole : AllFound l.hits (lists_in_range l.lists) l.index l.found.items;
}
