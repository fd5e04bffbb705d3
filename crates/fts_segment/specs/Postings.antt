-- Postings of a term: the documents that have it, each with its positions there.
use Rattle.std.specs.Prelude.{ℕ, ◌+◌, List, [], ◌∷◌, drop, length, map, slice_range, sum, take}

-- a posting: a document, and the positions of a term in it
pub record Posting : Type 0 where
  pub doc : ℕ
  pub positions : List ℕ

-- a posting of this document
abbrev pub posting_at : ℕ → List ℕ → Posting
posting_at doc positions = record { doc = doc; positions = positions }

-- the postings of documents with these lists of positions
abbrev pub postings_of : List ℕ → List (List ℕ) → List Posting
postings_of [] lists = []
postings_of (doc ∷ docs) [] = []
postings_of (doc ∷ docs) (list ∷ lists) = posting_at doc list ∷ postings_of docs lists

-- the postings of each of several terms, whose lists of positions follow each other
abbrev pub postings_by : List (List ℕ) → List (List ℕ) → List (List Posting)
postings_by [] positions = []
postings_by (list ∷ lists) positions = postings_of list positions ∷ postings_by lists (drop (length list) positions)

-- the number of documents in the lists of the terms before this one
abbrev pub documents_before : List (List ℕ) → ℕ → ℕ
documents_before lists term = sum (take term (map length lists))

-- the lists of positions of a term, one for each of its documents
abbrev pub term_positions : List (List ℕ) → List (List ℕ) → ℕ → List (List ℕ)
term_positions lists positions term =
    slice_range positions (documents_before lists term) (documents_before lists (term + 1))

-- the documents of postings
abbrev pub documents : List Posting → List ℕ
documents postings = map (λ p. p.doc) postings

-- the positions of postings, one list for each
abbrev pub position_lists : List Posting → List (List ℕ)
position_lists postings = map (λ p. p.positions) postings
