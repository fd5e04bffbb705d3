-- Rising lists of documents, led by the shortest.
use Rattle.std.specs.Prelude.{◌≡◌, ℕ, suc, ◌<◌, ◌≤◌, List, ◌∷◌, length}
use Rattle.fts_pack.specs.Documents.{Rises, blocks_of}
use Rattle.fts_postings.specs.Sets.{in_all}
use Rattle.fts_postings.specs.Posting.{Posting, remaining_of}
use Rattle.fts_cursor.specs.Openings.{shortest_of}
use Rattle.fts_cursor.specs.Terms.{IsTied}

-- a list leads others: it is the shortest of some lists, and the others are what is left of them
pub record IsLed (lists : List (List ℕ)) (shortest : List ℕ) (others : List (List ℕ)) : Type 0 where
  pub count : length lists ≡ suc (length others)
  pub same : (d : ℕ) → in_all (shortest ∷ others) d ≡ in_all lists d
  pub least : shortest_of lists ≡ shortest
  pub rises : Rises 0 shortest

-- a cursor over a list, as it was made: of its blocks at most one was opened
pub record IsOver (cursor : Posting) (documents : List ℕ) : Type 0 where
  pub blocks : cursor.blocks ≡ blocks_of documents
  pub remaining : remaining_of cursor ≡ documents
  pub opened : cursor.count ≤ 1
  pub enters : 0 < length documents → cursor.opened ≡ 1
  pub tied : IsTied cursor
