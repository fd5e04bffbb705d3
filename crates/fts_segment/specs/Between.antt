-- The lists of the documents of a column whose numbers are within bounds, and the number of these documents.
use Rattle.std.specs.Prelude.{◌≡◌, ℕ, ◌<◌, ◌≤◌, List, [], Option, Some, Contains, filter, length, slice_get}
use Rattle.std.specs.Prelude.{slice_index_or}
use Rattle.fts_pack.specs.column.Column.{is_within}

-- the numbers of documents in a field
abbrev pub NumberColumn : Type 0
NumberColumn = List (Option ℕ)

-- the lists have exactly the documents with a number within bounds in a column
pub record AreBetween (column : List (Option ℕ)) (low high : ℕ) (lists : List (List ℕ)) : Type 0 where
  pub sound : (k doc : ℕ) → k < length lists → Contains (slice_index_or lists k []) doc →
      (x : ℕ) × (slice_get column doc ≡ Some (Some x)) × (low ≤ x) × (x ≤ high)
  pub whole : (doc x : ℕ) → slice_get column doc ≡ Some (Some x) → low ≤ x → x ≤ high →
      (k : ℕ) × (k < length lists) × Contains (slice_index_or lists k []) doc

-- each list has exactly the documents with its own number in a column
pub record AreKeyed (column : List (Option ℕ)) (lists : List (List ℕ)) (key : ℕ → ℕ) : Type 0 where
  pub sound : (k doc : ℕ) → k < length lists → Contains (slice_index_or lists k []) doc →
      slice_get column doc ≡ Some (Some (key k))
  pub whole : (doc x : ℕ) → slice_get column doc ≡ Some (Some x) →
      (k : ℕ) × (k < length lists) × (key k ≡ x) × Contains (slice_index_or lists k []) doc

-- the number of documents with a number within bounds in a column
abbrev pub count_between : ℕ → ℕ → List (Option ℕ) → ℕ
count_between low high column = length (filter (is_within low high) column)

-- the number of rising numbers that are below a number
pub record IsCut (numbers : List ℕ) (number place : ℕ) : Type 0 where
  pub within : place ≤ length numbers
  pub before : (k : ℕ) → k < place → slice_index_or numbers k 0 < number
  pub behind : (k : ℕ) → place ≤ k → k < length numbers → number ≤ slice_index_or numbers k 0
