-- Lists some of which have bits.
use Rattle.std.specs.Prelude.{◌≡◌, ℕ, suc, ◌+◌, ◌≤◌, ◌&&◌, Bool, true, List, Option, length}
use Rattle.std.specs.Borrow.{Bor}
use Rattle.fts_pack.specs.Documents.{block_count}
use Rattle.fts_postings.specs.Bounds.{Bound, most_at}
use Rattle.fts_postings.specs.Sets.{common, has, in_all}
use Rattle.fts_sets.specs.Leaves.{in_each}
use Rattle.fts_cursor.specs.Standing.{Standing}

-- the bits of some of the lists, and the others; this many blocks were opened of those with bits, the first of each
pub record IsSplit (lists : List (List ℕ)) (bits : List (Bor (List Bool))) (rest : List (List ℕ)) (opened : ℕ)
    : Type 0 where
  pub same : (d : ℕ) → in_all lists d ≡ (in_each bits d && in_all rest d)
  pub count : length lists ≡ length bits + length rest
  pub few : opened ≤ length bits
  pub enters : (d : ℕ) → in_all lists d ≡ true → length bits ≤ opened

-- the bound of a list that leads this many others
abbrev pub bound_over : List ℕ → ℕ → Bound
bound_over shortest others = record { blocks = block_count (length shortest); lead = shortest; others = others }

-- a cursor over what a list and others have in common: it opens no more than the list's blocks, and of each other one,
-- and one for each document of the list up to there
pub record FindsAll (shortest : List ℕ) (others : List (List ℕ)) (cursor : Standing) : Type 0 where
  pub remaining : cursor.remaining ≡ common shortest others
  pub bound : (doc : Option ℕ) → most_at cursor.bound doc ≤ most_at (bound_over shortest (length others)) doc
  pub opened : (d : ℕ) → has shortest d ≡ true → in_all others d ≡ true → suc (length others) ≤ cursor.openings

-- as `FindsAll`, for lists that were split into bits and the others
abbrev pub FindsSplit : List ℕ → List (Bor (List Bool)) → List (List ℕ) → ℕ → Standing → Type 0
FindsSplit shortest bits rest opened cursor =
    (lists : List (List ℕ)) → IsSplit lists bits rest opened → FindsAll shortest lists cursor
