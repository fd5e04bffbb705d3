-- Packed lists of positions: the number of positions of each, and its gaps.
use Rattle.std.specs.Prelude.{◌≡◌, ℕ, ◌+◌, ◌*◌, ◌^◌, ◌<◌, List, [], ◌∷◌, All, Option, Some, None, length, take, drop}
use Rattle.std.specs.Prelude.{slice_index, slice_range, sum}
use Rattle.std.specs.Borrow.{Bor}
use Rattle.fts_pack.specs.Documents.{Rises, block_count, documents_at}

-- positions of a term in a text: they rise, and have 32 bits
pub record IsPositionList (list : List ℕ) : Type 0 where
  pub rises : Rises 0 list
  pub few : length list < 2 ^ 32

-- the lists with these counts of positions and these gaps
abbrev pub position_lists_at : List ℕ → List ℕ → List (List ℕ)
position_lists_at [] gaps = []
position_lists_at (count ∷ counts) gaps = documents_at 0 (take count gaps) ∷ position_lists_at counts (drop count gaps)

-- counts and gaps are those of lists of positions
pub record AreLogged (counts gaps : List ℕ) : Type 0 where
  pub whole : sum counts ≡ length gaps
  pub few : length gaps < 2 ^ 64
  pub fit : All (λ list. All (λ p. p < 2 ^ 32) list) (position_lists_at counts gaps)

-- as `AreLogged`, and the positions of each 128th list begin at its start
pub record ArePacked (counts starts gaps : List ℕ) : Type 0 where
  pub whole : sum counts ≡ length gaps
  pub few : length gaps < 2 ^ 64
  pub many : length starts ≡ block_count (length counts)
  pub starts_are : (block : ℕ) → block < length starts → slice_index starts block ≡ sum (take (block * 128) counts)
  pub fit : All (λ list. All (λ p. p < 2 ^ 32) list) (position_lists_at counts gaps)

-- a position, and those of the gaps from an index to another after it; none without it
abbrev pub positions_from : Option (ℕ × Bor (List ℕ)) → ℕ → ℕ → List ℕ
positions_from None at end = []
positions_from (Some first) at end = first.0 ∷ documents_at (first.0 + 1) (slice_range first.1.now at end)

-- the lists that an optional reference points to, or none
abbrev pub lists_behind : Option (Bor (List (List ℕ))) → List (List ℕ)
lists_behind None = []
lists_behind (Some lists) = lists.now
