-- The outcome of reading a text: a query, or a refusal.
use Rattle.std.specs.Prelude.{◌≡◌, ℕ, ◌+◌, ◌-◌, ◌<◌, ◌≤◌, ◌⊎◌, Bool, true, false, ◌==◌, nat_lt, List, [], ◌∷◌, length}
use Rattle.std.specs.Prelude.{Result, Ok, Err, Option, Some, None, if◌then◌else◌}
use Rattle.std.specs.Str.{chars}
use Rattle.fts_model.specs.declared.schema.Field.{Field}
use Rattle.fts_base.specs.declared.refusal.Refusal.{Refusal}
use Rattle.fts_base.specs.declared.refusal.Refusal.TheVariants.{Memory, TooLong, Syntax, TooDeep, UnknownField}
use Rattle.fts_base.specs.declared.refusal.Refusal.TheVariants.{BadNumber, RangeOnText, NoDefaultField}
use Rattle.fts_base.specs.declared.refusal.Refusal.TheVariants.{AllNegative}
use Rattle.fts_query.specs.declared.error.QueryError.TheVariants as errors
use Rattle.fts_query.specs.declared.depth.Quoting.{Quoting}
use Rattle.fts_query.specs.declared.depth.Quoting.TheVariants.{Outside, Quoted, Escaped}
use Rattle.fts_model.specs.QueryValues.{QueryValue, nothing}
use Rattle.fts_query.specs.Characters.{quote, open_parenthesis, close_parenthesis, backslash}
use Rattle.fts_query.specs.Meanings.{Meaning}
use Rattle.fts_query.specs.Grammar.{IsBlank, IsQuery}

-- whether the parentheses outside quotes nest over 32 deep, if `depth` are open before
unfoldable pub is_too_deep : Quoting → ℕ → List ℕ → Bool
is_too_deep quoting depth [] = false
is_too_deep Outside depth (c ∷ cs) =
    if c == quote then is_too_deep Quoted depth cs
    else (if c == open_parenthesis then (if nat_lt 31 depth then true else is_too_deep Outside (depth + 1) cs)
    else (if c == close_parenthesis then is_too_deep Outside (depth - 1) cs
    else is_too_deep Outside depth cs))
is_too_deep Quoted depth (c ∷ cs) =
    if c == quote then is_too_deep Outside depth cs
    else (if c == backslash then is_too_deep Escaped depth cs
    else is_too_deep Quoted depth cs)
is_too_deep Escaped depth (c ∷ cs) = is_too_deep Quoted depth cs

-- a text is neither too long nor too deep
pub record IsFit (text : List ℕ) : Type 0 where
  pub short : length text ≤ 4096
  pub shallow : is_too_deep Outside 0 (chars text) ≡ false

-- a text of only white space is the query for no document
abbrev pub IsNothing : List ℕ → QueryValue → Type 0
IsNothing text query = IsBlank (chars text) × (query ≡ nothing)

-- the outcome of a text under a schema: a query or a refusal, by the checks in their order, the grammar and the meaning
abbrev pub Reads : List Field → List ℕ → Result QueryValue Refusal → Type 0
Reads schema text (Ok query) = IsFit text × (IsNothing text query ⊎ IsQuery schema (chars text) (Ok query))
Reads schema text (Err TooLong) = 4096 < length text
Reads schema text (Err TooDeep) = (length text ≤ 4096) × (is_too_deep Outside 0 (chars text) ≡ true)
Reads schema text (Err (Syntax byte)) =
    IsFit text × (IsBlank (chars text) → ⊥) × ((m : Meaning) → IsQuery schema (chars text) m → ⊥)
Reads schema text (Err UnknownField) = IsFit text × IsQuery schema (chars text) (Err errors.UnknownField)
Reads schema text (Err BadNumber) = IsFit text × IsQuery schema (chars text) (Err errors.BadNumber)
Reads schema text (Err RangeOnText) = IsFit text × IsQuery schema (chars text) (Err errors.RangeOnText)
Reads schema text (Err NoDefaultField) = IsFit text × IsQuery schema (chars text) (Err errors.NoDefaultField)
Reads schema text (Err AllNegative) = IsFit text × IsQuery schema (chars text) (Err errors.AllNegative)
Reads schema text (Err refusal) = ⊥

-- the byte of a syntax error, or 0 for another refusal
abbrev pub byte_of : Refusal → ℕ
byte_of (Syntax byte) = byte
byte_of refusal = 0

-- the byte of a refusal: a syntax error has one, any other refusal has none; `Memory` says nothing of the text
abbrev pub IsByteOf : Refusal → Option ℕ → Type 0
IsByteOf Memory at = ⊥
IsByteOf (Syntax byte) at = at ≡ Some byte
IsByteOf refusal at = at ≡ None

-- a refusal with 0 as the byte of a syntax error
abbrev pub refusal_without_byte : Refusal → Refusal
refusal_without_byte (Syntax byte) = Syntax 0
refusal_without_byte refusal = refusal

-- an outcome with 0 as the byte of a syntax error
abbrev pub without_byte : Result QueryValue Refusal → Result QueryValue Refusal
without_byte (Ok query) = Ok query
without_byte (Err refusal) = Err (refusal_without_byte refusal)

-- a text that isn't in the grammar is a syntax error under each schema, reported with a byte of the text or its end;
-- any other text is reported with none
abbrev pub TellsSyntax : List ℕ → Option ℕ → Type 0
TellsSyntax text None = (schema : List Field) (byte : ℕ) → Reads schema text (Err (Syntax byte)) → ⊥
TellsSyntax text (Some byte) = (byte ≤ length text) × ((schema : List Field) → Reads schema text (Err (Syntax byte)))
