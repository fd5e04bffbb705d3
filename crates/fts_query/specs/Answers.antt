-- The one outcome of a text, as reading from the left finds it.
use Rattle.std.specs.Prelude.{◌≡◌, ℕ, nat_lt, List, length, Option, Some, None, Result, Ok, Err, if◌then◌else◌}
use Rattle.std.specs.List.{list_all}
use Rattle.std.specs.Str.{chars}
use Rattle.fts_model.specs.declared.schema.Field.{Field}
use Rattle.fts_base.specs.declared.refusal.Refusal.{Refusal}
use Rattle.fts_base.specs.declared.refusal.Refusal.TheVariants.{Memory, TooLong, Syntax, TooDeep, UnknownField}
use Rattle.fts_base.specs.declared.refusal.Refusal.TheVariants.{BadNumber, RangeOnText, NoDefaultField, AllNegative}
use Rattle.fts_model.specs.declared.query.Query.{Query}
use Rattle.fts_query.specs.declared.error.QueryError.{QueryError}
use Rattle.fts_query.specs.declared.error.QueryError.TheVariants as errors
use Rattle.fts_query.specs.declared.depth.Quoting.TheVariants.{Outside}
use Rattle.fts_model.specs.QueryValues.{QueryValue, nothing, query_value}
use Rattle.fts_query.specs.Meanings.{Meaning}
use Rattle.fts_query.specs.Grammar.{is_space}
use Rattle.fts_query.specs.Outcomes.{is_too_deep}
use Rattle.fts_query.specs.Reading.{query_of}

-- the refusal for an error
abbrev pub refusal_of : QueryError → Refusal
refusal_of errors.UnknownField = UnknownField
refusal_of errors.BadNumber = BadNumber
refusal_of errors.RangeOnText = RangeOnText
refusal_of errors.NoDefaultField = NoDefaultField
refusal_of errors.AllNegative = AllNegative

abbrev pub outcome_of : Meaning → Result QueryValue Refusal
outcome_of (Ok q) = Ok q
outcome_of (Err f) = Err (refusal_of f)

abbrev pub answer_from : Option Meaning → Result QueryValue Refusal
answer_from None = Err (Syntax 0)
answer_from (Some m) = outcome_of m

-- the outcome of the characters of a text that is neither too long nor too deep
abbrev pub answer_fit : List Field → List ℕ → Result QueryValue Refusal
answer_fit schema text = if list_all is_space text then Ok nothing else answer_from (query_of schema 4096 text)

-- the one outcome of a text, with 0 as the byte of a syntax error
unfoldable pub answer : List Field → List ℕ → Result QueryValue Refusal
answer schema text =
    if nat_lt 4096 (length text) then Err TooLong
    else (if is_too_deep Outside 0 (chars text) then Err TooDeep
    else answer_fit schema (chars text))

-- a refusal is the outcome except for the byte of a syntax error, or memory ran out
abbrev pub IsRefusal : Refusal → Result QueryValue Refusal → Type 0
IsRefusal Memory outcome = Unit {0}
IsRefusal (Syntax byte) outcome = outcome ≡ Err (Syntax 0)
IsRefusal refusal outcome = outcome ≡ Err refusal

-- the result of the code is the outcome
abbrev pub IsAnswer : Result Query Refusal → Result QueryValue Refusal → Type 0
IsAnswer (Ok query) outcome = outcome ≡ Ok (query_value query)
IsAnswer (Err refusal) outcome = IsRefusal refusal outcome
