-- Texts that are concatenated.
use Rattle.std.specs.Prelude.{ℕ, List, length, All}
use Rattle.std.specs.Str.{IsCharBoundary}
use Rattle.fts_base.specs.Pieces.{AreEnds}

-- concatenated texts end at these indexes, each between two characters
pub record AreTextEnds (bytes : List ℕ) (ends : List ℕ) : Type 0 where
  pub are : AreEnds 0 ends (length bytes)
  pub between : All (IsCharBoundary bytes) ends
