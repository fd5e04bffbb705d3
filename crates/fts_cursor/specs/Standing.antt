-- What contracts see of the cursor of a query.
use Rattle.std.specs.Prelude.{◌≡◌, ℕ, suc, ◌+◌, ◌≤◌, Bool, true, List, [], Option, None, Some, slice_get}
use Rattle.fts_pack.specs.Documents.{block_count}
use Rattle.fts_postings.specs.Bounds.{Bound, reached}
use Rattle.fts_postings.specs.Remaining.{at_least}

-- what remains, how often its sources opened a block, how many blocks it opens at most by where it is, whether it goes
-- over one list of which it has opened each block up to there, and if it goes over one list alone, all of that list
pub record Standing : Type 0 where
  pub remaining : List ℕ
  pub openings : ℕ
  pub bound : Bound
  pub whole : Bool
  pub list : Option (List ℕ)

-- a later state of a cursor
pub record Continues (old new : Standing) : Type 0 where
  pub bound : new.bound ≡ old.bound
  pub list : new.list ≡ old.list
  pub more : old.openings ≤ new.openings

-- a later state of a cursor by which nothing was sought
pub record Walked (old new : Standing) : Type 0 where
  pub continues : Continues old new
  pub whole : old.whole ≡ true → new.whole ≡ true

-- this many blocks, wherever it is
abbrev pub at_most : ℕ → Bound
at_most blocks = record { blocks = blocks; lead = []; others = 0 }

-- a cursor for which this many blocks more were opened
abbrev pub with_opened : ℕ → Standing → Standing
with_opened opened s = record s {
  openings = s.openings + opened;
  bound = record s.bound { blocks = s.bound.blocks + opened };
}

-- how many blocks a list has up to a document, that of the document counted: all of them at the end
abbrev pub blocks_to : List ℕ → Option ℕ → ℕ
blocks_to documents doc = block_count (reached documents doc)

-- a cursor over one list opened no more than the blocks up to where it is
abbrev pub OpensAlong : Standing → Type 0
OpensAlong cursor =
    (documents : List ℕ) → cursor.list ≡ Some documents →
    cursor.openings ≤ blocks_to documents (slice_get cursor.remaining 0)

-- what is left of a list at a document
abbrev pub left_at : List ℕ → Option ℕ → List ℕ
left_at documents None = []
left_at documents (Some doc) = at_least doc documents

-- a cursor over one list opened one block at most when it was sought, if it is now at the first document of the list
-- from the target on: what it passes after that, since it isn't live, may open more
abbrev pub OpensOnce : ℕ → Standing → Standing → Type 0
OpensOnce target old new =
    (documents : List ℕ) → old.list ≡ Some documents →
    slice_get new.remaining 0 ≡ slice_get (at_least target (left_at documents (slice_get old.remaining 0))) 0 →
    new.openings ≤ suc old.openings
