use Rattle.std.proofs.Common.{All, take}
use Rattle.fts_merge.specs.Internals.Deletes.{IsFound, StrikeAlike}
use Rattle.fts_merge.proofs.term_delete.term_deletes.Given as goal

abbrev pub invariant-loop-op : goal.invariant-loop-op
invariant-loop-op l = record {
  are : All (IsFound l.segment) l.deletes.items;
  alike : StrikeAlike l.segment.schema l.deletes.items (take l.op-index l.ops) l.segment.documents;
}
