-- What a call returns of a query that isn't in the grammar.
use Rattle.std.specs.Prelude.{◌≡◌, ◌⊎◌, ℕ, ℤ, List, Some, None}
use Rattle.std.specs.Str.{IsUtf8}
use Rattle.fts_query.specs.Outcomes.{TellsSyntax}
use Rattle.fts_c.specs.declared.codes.TheConstants.{OK, MEMORY, NO_BYTE}
use Rattle.fts_c.specs.Codes.{IsOfTried}

-- The byte of a syntax error, or that there is none; a text that isn't UTF-8 is no query at all.
abbrev pub IsSyntaxAt : List ℕ → ℕ → Type 0
IsSyntaxAt query at =
    (IsUtf8 query × TellsSyntax query (Some at)) ⊎ ((at ≡ NO_BYTE) × (IsUtf8 query → TellsSyntax query None))

-- The byte at which a query can't be read any further was returned, unless memory was refused.
pub record TellsSyntaxAt (query : List ℕ) (before at : ℕ) (code : ℤ) : Type 0 where
  pub code_is : IsOfTried code
  pub ok : code ≡ OK → IsSyntaxAt query at
  pub same : code ≡ MEMORY → at ≡ before
