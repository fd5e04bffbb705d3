-- What a cursor over terms stands for in a tree.
use Rattle.std.specs.Prelude.{◌≡◌, ℕ, All, false, List, None}
use Rattle.std.specs.List.{flat_map}
use Rattle.std.specs.List.Sorted.{IsStrictlyIncreasing}
use Rattle.fts_pack.specs.Documents.{blocks_of}
use Rattle.fts_postings.specs.Conjoined.{Conjoined, bound_of, counts_of}
use Rattle.fts_postings.specs.Posting.{Posting}
use Rattle.fts_cursor.specs.Standing.{Standing}

-- each opening of a source was counted by its cursor
abbrev pub IsTied : Posting → Type 0
IsTied p = p.count ≡ p.opened

abbrev pub AreTied : Conjoined → Type 0
AreTied c = IsTied c.lead × All IsTied c.others

-- the blocks are those of a list that rises
pub record AreBlocks (blocks : List (List ℕ)) : Type 0 where
  pub cut : blocks ≡ blocks_of (flat_map (λ block. block) blocks)
  pub rises : IsStrictlyIncreasing (flat_map (λ block. block) blocks)

-- a cursor over such a list alone
abbrev pub IsAlone : Posting → Type 0
IsAlone p = IsTied p × AreBlocks p.blocks

-- a conjunction of which this remains
abbrev pub of_terms : Conjoined → List ℕ → Standing
of_terms c remaining = record {
  remaining = remaining;
  openings = counts_of c;
  bound = bound_of c;
  whole = false;
  list = None;
}
