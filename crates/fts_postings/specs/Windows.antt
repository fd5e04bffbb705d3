-- Documents as bits, from a number on.
use Rattle.std.specs.Prelude.{◌≡◌, ℕ, suc, ◌+◌, ◌-◌, ◌/◌, ◌%◌, ◌<◌, ◌==◌, Bool, false, List, filter, slice_index_or}
use Rattle.std.specs.Int.{bit_at}
use Rattle.std.specs.List.{range_with_len}

-- those of this many documents from one on that pass
abbrev pub passing : (ℕ → Bool) → ℕ → ℕ → List ℕ
passing test from count = filter test (range_with_len from count)

-- whether a document's bit is set
abbrev pub is_marked : ℕ → ℕ → ℕ → Bool
is_marked from marks d = bit_at marks (d - from) == 1

-- the documents of from..=last whose bits are set
abbrev pub marked : ℕ → ℕ → ℕ → List ℕ
marked from last marks = passing (is_marked from marks) from (suc last - from)

-- whether a document's bit is set: words have a bit for each document from one on, 64 a word
abbrev pub is_found : ℕ → List ℕ → ℕ → Bool
is_found base words d = bit_at (slice_index_or words ((d - base) / 64) 0) ((d - base) % 64) == 1

-- the documents of from..=last whose bit is set
abbrev pub found_in : ℕ → ℕ → ℕ → List ℕ → List ℕ
found_in base from last words = passing (is_found base words) from (suc last - from)

-- the bits of a word are those of 64 documents from one on
abbrev pub AreMarksFrom : ℕ → ℕ → List ℕ → ℕ → Type 0
AreMarksFrom start base words word = (k : ℕ) → k < 64 → (bit_at word k == 1) ≡ is_found base words (start + k)

-- whether a document's bit is set
abbrev pub is_set : List Bool → ℕ → Bool
is_set bits d = slice_index_or bits d false
