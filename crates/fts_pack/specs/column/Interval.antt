-- A search for documents by their values.
use Rattle.std.specs.Prelude.{◌≡◌, ℕ, ◌+◌, ◌<◌, true, false, List, Option, None, All, IfSome, drop, length, slice_index}
use Rattle.fts_pack.specs.column.Column.{is_within}

-- no document has a number within bounds
abbrev pub NoneWithin : (ℕ → Option ℕ) → ℕ → ℕ → List ℕ → Type 0
NoneWithin number low high docs = All (λ doc. is_within low high (number doc) ≡ false) docs

-- the index of the last of the documents whose number is within bounds, if there is one
pub record IsLastWithin
    (number : ℕ → Option ℕ) (low high : ℕ) (docs : List ℕ) (found : Option ℕ) : Type 0 where
  pub some : IfSome found (λ place.
      (place < length docs) × (is_within low high (number (slice_index docs place)) ≡ true))
  pub behind : IfSome found (λ place. NoneWithin number low high (drop (place + 1) docs))
  pub none : found ≡ None → NoneWithin number low high docs
