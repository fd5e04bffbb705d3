-- The documents of the blocks so far whose bits are set are added.
use Rattle.std.proofs.Common.{◌≡◌, ◌++◌, filter, take}
use Rattle.std.specs.List.{flat_map}
use Rattle.fts_pack.specs.ListRef.{listed}
use Rattle.fts_pack.specs.Documents.{blocks_of}
use Rattle.fts_pack.specs.ListSource.{documents_in}
use Rattle.fts_postings.specs.Sets.{has}
use Rattle.fts_collect.proofs.walk.push_list.Given as goal

abbrev pub invariant-loop-block : goal.invariant-loop-block
invariant-loop-block l = record {
  list : blocks_of (documents_in l.source) ≡ blocks_of (listed l.list);
  found : l.found.items ≡ l.initial.found.items ++ filter (has l.hits) (flat_map (λ block. block) (take l.block (blocks_of (listed l.list))));
}
