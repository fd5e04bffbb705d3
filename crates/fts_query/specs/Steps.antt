-- A step of the code, compared with the reading that it computes.
--
-- Only proofs and contracts within the crate need this file.
use Rattle.std.specs.Prelude.{◌≡◌, Option, Some, None, Result, Ok, Err}
use Rattle.fts_query.specs.declared.error.ParseError.{ParseError}
use Rattle.fts_query.specs.declared.error.ParseError.TheVariants.{Memory, Syntax}

-- A step that stopped read nothing, unless memory ran out.
abbrev pub Misses : {Y : Type 0} → ParseError → Option Y → Type 0
Misses Memory found = Unit {0}
Misses (Syntax left) found = found ≡ None

-- The part that a step read, seen by a view, is the part of the reading.
abbrev pub Finds : {X Y : Type 0} → (X → Y) → Result X ParseError → Option Y → Type 0
Finds view (Ok x) found = found ≡ Some (view x)
Finds view (Err error) found = Misses error found
