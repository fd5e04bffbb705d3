-- Documents that words tell, 64 a word, the first of them in the lowest bit, and what becomes of them.
use Rattle.std.specs.Prelude.{◌≡◌, ℕ, ◌+◌, ◌*◌, ◌<◌, ◌==◌, ◌&&◌, ◌||◌, Bool, List, length, not, slice_index}
use Rattle.std.specs.Int.{bit_at}
use Rattle.fts_pack.specs.declared.bits.change.Change.{Change}
use Rattle.fts_pack.specs.declared.bits.change.Change.TheVariants.{And, Or, AndNot}

-- whether a document is told after a change, by whether it was told and whether its bit is set
abbrev pub changed : Change → Bool → Bool → Bool
changed And told set = told && set
changed Or told set = told || set
changed AndNot told set = told && not set

-- words, the first of them that of an index, tell each document afterwards as a change says, by its number and whether
-- it was told
pub record AreChanged (change : ℕ → Bool → Bool) (index : ℕ) (old new : List ℕ) : Type 0 where
  pub long : length new ≡ length old
  pub told : (k j : ℕ) → k < length old → j < 64 →
      (bit_at (slice_index new k) j == 1) ≡ change (64 * (index + k) + j) (bit_at (slice_index old k) j == 1)
