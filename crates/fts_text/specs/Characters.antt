-- The characters of a span, and how they are folded.
use Rattle.std.specs.Prelude.{ℕ, ◌+◌, Bool, ◌||◌, cond, List, [], ◌∷◌, map, encode_utf8_all}
use Rattle.std.specs.Bool.{beq}
use Rattle.std.specs.Char.{len_utf8}
use Rattle.std.specs.Str.{chars}
use Rattle.unicode.specs.Binary.{is_alphabetic}
use Rattle.unicode.specs.GeneralCategory.{general_category}
use Rattle.unicode.specs.GeneralCategoryGroup.{in_group}
use Rattle.unicode.specs.CaseFolding.{simple_fold}
use Rattle.ucd_category.specs.declared.GeneralCategoryGroup.TheVariants.{Number}

-- a character of a span: Alphabetic, or a number, which is general category Nd, Nl or No (UAX #44)
unfoldable pub is_alphanumeric : ℕ → Bool
is_alphanumeric c = is_alphabetic c || in_group Number (general_category c)

-- the UTF-8 of characters, each replaced by its simple case folding (UAX #44, Simple_Case_Folding)
abbrev pub fold_chars : List ℕ → List ℕ
fold_chars cs = encode_utf8_all (map simple_fold cs)

-- a text with each character replaced by its simple case folding
unfoldable pub folded : List ℕ → List ℕ
folded text = fold_chars (chars text)

-- the number of bytes of the longest prefix whose characters are all alphanumeric, or at `false` none
abbrev pub front_len : Bool → List ℕ → ℕ
front_len alphanumeric [] = 0
front_len alphanumeric (c ∷ cs) = cond (beq (is_alphanumeric c) alphanumeric) (len_utf8 c + front_len alphanumeric cs) 0
