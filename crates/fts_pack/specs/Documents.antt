-- Strictly rising lists of documents, their gaps, and their blocks.
use Rattle.std.specs.Prelude.{ℕ, suc, ◌+◌, ◌-◌, ◌*◌, ◌/◌, ◌≤◌, List, [], ◌∷◌, length, take, drop, map, slice_index}
use Rattle.std.specs.List.{range_with_len}

-- documents by their numbers
abbrev pub DocumentNumbers : Type 0
DocumentNumbers = List ℕ

-- the gaps of rising documents: the first less `next`, then each less its predecessor, less 1
abbrev pub gaps : ℕ → List ℕ → List ℕ
gaps next [] = []
gaps next (document ∷ documents) = (document - next) ∷ gaps (suc document) documents

-- the documents with these gaps
abbrev pub documents_at : ℕ → List ℕ → List ℕ
documents_at next [] = []
documents_at next (gap ∷ others) = (next + gap) ∷ documents_at (suc (next + gap)) others

-- the number of blocks of 128 for this many documents; the last block has 1 to 128
abbrev pub block_count : ℕ → ℕ
block_count count = (count + 127) / 128

-- a block of a list of documents
abbrev pub block_at : List ℕ → ℕ → List ℕ
block_at documents block = take 128 (drop (block * 128) documents)

-- the blocks of a list of documents
abbrev pub blocks_of : List ℕ → List (List ℕ)
blocks_of documents = map (block_at documents) (range_with_len 0 (block_count (length documents)))

-- the last number of a list
abbrev pub last_of : List ℕ → ℕ
last_of numbers = slice_index numbers (length numbers - 1)

-- documents rise strictly, and the first is at least `next`
abbrev pub Rises : ℕ → List ℕ → Type 0
Rises next [] = Unit {0}
Rises next (document ∷ documents) = (next ≤ document) × Rises (suc document) documents

-- the least document that may follow these
abbrev pub after : ℕ → List ℕ → ℕ
after next [] = next
after next (document ∷ documents) = after (suc document) documents
