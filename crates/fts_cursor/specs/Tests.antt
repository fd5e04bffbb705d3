-- Tests of a document by its number.
use Rattle.std.specs.Prelude.{◌≡◌, ℕ, ◌||◌, Bool, List, [], ◌∷◌, map}
use Rattle.fts_model.specs.declared.query.Query.{Query}
use Rattle.fts_model.specs.QueryValues.{query_value}
use Rattle.fts_segment.specs.Segments.{SegmentValue}
use Rattle.fts_postings.specs.Sets.{in_all, in_some}
use Rattle.fts_cursor.specs.Hits.{segment_hits}
use Rattle.fts_sets.specs.declared.leaf.Leaf.{Leaf}
use Rattle.fts_sets.specs.Leaves.{one_has}

-- tests with more, one of which the documents pass that are meant
abbrev pub HasMore : (ℕ → Bool) → List Leaf → List Leaf → Type 0
HasMore test old new = (doc : ℕ) → one_has new doc ≡ (one_has old doc || test doc)

-- the documents that each of some queries finds
abbrev pub hits_of_each : SegmentValue → List Query → List (List ℕ)
hits_of_each segment queries = map (λ q. segment_hits segment (query_value q)) queries

-- whether all lists of musts have a document, or one of the shoulds where there is no must
abbrev pub is_kept : List (List ℕ) → List (List ℕ) → ℕ → Bool
is_kept [] should doc = in_some should doc
is_kept (documents ∷ must) should doc = in_all (documents ∷ must) doc
