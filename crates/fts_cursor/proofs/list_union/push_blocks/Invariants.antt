-- The blocks so far come after the others, and each was opened once.
use Rattle.std.proofs.Common.{◌≡◌, ◌+◌, ◌++◌, take}
use Rattle.std.specs.List.{flat_map}
use Rattle.fts_pack.specs.Documents.{blocks_of}
use Rattle.fts_pack.specs.ListSource.{documents_in, openings_of}
use Rattle.fts_cursor.proofs.list_union.push_blocks.Given as goal

abbrev pub invariant-loop-block : goal.invariant-loop-block
invariant-loop-block l = record {
  list : blocks_of (documents_in l.source) ≡ blocks_of (documents_in l.initial.source);
  documents : l.documents.items ≡ l.initial.documents.items ++ flat_map (λ block. block) (take l.block (blocks_of (documents_in l.initial.source)));
  counted : openings_of l.source ≡ openings_of l.initial.source + l.block;
}
