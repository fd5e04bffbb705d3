-- The lists so far are joined, and no block has no document.
use Rattle.std.proofs.Common.{◌≡◌, ◌≤◌, length, sum_by, take}
use Rattle.std.specs.List.{flat_map}
use Rattle.fts_pack.specs.Documents.{block_count}
use Rattle.fts_pack.specs.ListRange.{lists_in_range}
use Rattle.fts_cursor.proofs.list_union.joined.Given as goal

abbrev pub invariant-loop-index : goal.invariant-loop-index
invariant-loop-index l = record {
  documents : l.documents.items ≡ flat_map (λ list. list) (take l.index (lists_in_range l.lists));
  opened : l.opened ≡ sum_by (λ list. block_count (length list)) (take l.index (lists_in_range l.lists));
  few : l.opened ≤ length l.documents.items;
}
