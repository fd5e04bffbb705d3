use Rattle.std.proofs.Common.{drop, length}
use Rattle.fts_pack.specs.PackedList.{Extends}
use Rattle.fts_pack.proofs.PackedListLemmas.{IsBuilt}
use Rattle.fts_pack.proofs.packed_list.add_blocks.Given as goal

abbrev pub invariant-loop-block : goal.invariant-loop-block
invariant-loop-block l = record {
  built : IsBuilt l.documents l.block l.next (drop (length l.fn.skips.items) l.skips.items) l.words.items;
  skips : Extends l.fn.skips.items l.skips.items;
  words : Extends l.fn.words.items l.words.items;
}
