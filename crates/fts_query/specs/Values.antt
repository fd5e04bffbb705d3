-- What follows a field, independent of memory.
--
-- Only proofs and contracts within the crate need this file.
use Rattle.std.specs.Prelude.{ℕ, ◌≤◌, List, length}
use Rattle.std.specs.String.{string_bytes}
use Rattle.std.specs.declared.ops.Bound.{Bound}
use Rattle.std.specs.declared.ops.Bound.TheVariants.{Included, Excluded, Unbounded}
use denote.Ref.{Bor}
use Rattle.fts_query.specs.declared.value.Value.{Value as CodeValue}
use Rattle.fts_query.specs.declared.value.Value.TheVariants as values
use Rattle.fts_query.specs.Meanings.{Value, literal, between}

abbrev pub bound_seen : Bound (Bor (List ℕ)) → Bound (List ℕ)
bound_seen (Included word) = Included word.now
bound_seen (Excluded word) = Excluded word.now
bound_seen Unbounded = Unbounded

abbrev pub value_seen : CodeValue → Value
value_seen (values.Word word) = literal word.now
value_seen (values.Quoted text) = literal (string_bytes text)
value_seen (values.Range lower upper) = between (bound_seen lower) (bound_seen upper)

-- a literal that is no longer than a query
abbrev pub IsShort : Value → Type 0
IsShort (literal text) = length text ≤ 4096
IsShort (between lower upper) = Unit {0}
