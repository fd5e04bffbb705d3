-- The contents of a block, from the numbers that were packed.
use Rattle.std.proofs.Common.{◌≡◌, ℕ, ◌≤◌, List, length, sym, ap, ◌∙◌}
use Rattle.fts_pack.specs.Block.{IsBlock, block_numbers}
use Rattle.fts_pack.specs.bits.Digits.{IsWidthOf}
use Rattle.fts_pack.specs.FourLanes.{words_in_lanes}
use Rattle.fts_pack.proofs.LaneLemmas.{numbers_in_lanes-words}

-- the numbers that were packed are read back
pub block_again : (numbers words : List ℕ) (width : ℕ) → length numbers ≤ 128 → IsWidthOf numbers width → words ≡ words_in_lanes width numbers →
    block_numbers (length numbers) width words ≡ numbers
block_again numbers words width few fits words_are =
    rw words_are (numbers_in_lanes-words width numbers few fits.holds)

pub IsBlock-packed : (numbers words : List ℕ) (width : ℕ) → length numbers ≤ 128 → width ≤ 32 → IsWidthOf numbers width → words ≡ words_in_lanes width numbers →
    IsBlock (length numbers) width words
IsBlock-packed numbers words width few narrow fits words_are =
    let again = block_again numbers words width few fits words_are in
    record {
      count_within = few;
      width_within = narrow;
      width_is = rw again fits;
      words_are = words_are ∙ ap (words_in_lanes width) (sym again);
    }
