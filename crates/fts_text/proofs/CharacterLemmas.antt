-- ASCII characters and the Unicode tables.
use Rattle.std.proofs.Common.{◌≡◌, ℕ, ◌<◌, refl}
use Rattle.std.specs.Bool.{beq}
use Rattle.std.specs.Char.{is_ascii_alphanumeric}
use Rattle.unicode.proofs.DerivedComputing.{ucd_derived}
use Rattle.unicode.proofs.CategoryComputing.{ucd_category}
use Rattle.unicode.proofs.TrieCheck.{all_below-at}
use Rattle.unicode.proofs.Facts.{same_from_beq}
use Rattle.fts_text.specs.Characters.{is_alphanumeric}

-- below 128 the tables agree with ASCII
pub is_alphanumeric-ascii : (c : ℕ) → c < 128 → is_alphanumeric c ≡ is_ascii_alphanumeric c
unfolding is_alphanumeric ucd_derived ucd_category
is_alphanumeric-ascii c below =
    same_from_beq _ _ (all_below-at (λ x. beq (is_alphanumeric x) (is_ascii_alphanumeric x)) 128 c refl below)
