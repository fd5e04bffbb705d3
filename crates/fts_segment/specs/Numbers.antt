-- The numbers of a number field.
use Rattle.std.specs.Prelude.{◌≡◌, ℕ, ◌==◌, Bool, true, false, List, map, Option, Some, None, All, Contains}
use Rattle.std.specs.List.Sorted.{IsStrictlyIncreasing}
use Rattle.fts_model.specs.declared.schema.Kind.{Kind}
use Rattle.fts_model.specs.declared.schema.Kind.TheVariants as kinds
use Rattle.fts_model.specs.declared.value.FieldValue.{FieldValue}
use Rattle.fts_model.specs.declared.value.FieldValue.TheVariants as values
use Rattle.fts_model.specs.declared.value.Number.TheVariants as numbers
use Rattle.fts_model.specs.Documents.{fits_i64}
use Rattle.fts_segment.specs.Segments.{number_of, numbers_where}

-- the number of an `i64` field fits 64 bits
abbrev pub Fits64 : Kind → FieldValue → Type 0
Fits64 kinds.I64 (values.Number (numbers.I64 z)) = fits_i64 z ≡ true
Fits64 kinds.Text value = Unit {0}
Fits64 kinds.Keyword value = Unit {0}
Fits64 kinds.U64 value = Unit {0}
Fits64 kinds.I64 value = Unit {0}

-- the numbers of values
abbrev pub numbers_of : Kind → List (Option FieldValue) → List (Option ℕ)
numbers_of kind vs = map (number_of kind) vs

-- whether an optional number is this one
abbrev pub is_number : ℕ → Option ℕ → Bool
is_number x None = false
is_number x (Some y) = y == x

-- the distinct numbers of a column, rising, and the documents of each
pub record IsNumberIndex (column : List (Option ℕ)) (numbers : List ℕ) (lists : List (List ℕ)) : Type 0 where
  pub rises : IsStrictlyIncreasing numbers
  pub listed : lists ≡ map (λ x. numbers_where (is_number x) 0 column) numbers
  pub occur : All (λ x. Contains column (Some x)) numbers
  pub whole : (x : ℕ) → Contains column (Some x) → Contains numbers x
