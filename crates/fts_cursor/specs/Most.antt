-- How many blocks the cursor of a query opens, whatever the query is.
use Rattle.std.specs.Prelude.{◌≡◌, ◌≢◌, ℕ, ◌+◌, ◌/◌, ◌≤◌, nat_le, Bool, true, false, not, ◌&&◌, Option, None, Some, List, []}
use Rattle.std.specs.Prelude.{◌∷◌, length}
use Rattle.std.specs.Prelude.{if◌then◌else◌, map}
use Rattle.fts_model.specs.declared.operation.Term.{Term}
use Rattle.fts_model.specs.Queries.{are_some}
use Rattle.fts_model.specs.QueryValues.{QueryValue, every, nothing, term, phrase, range, boolean, QueryValues}
use Rattle.fts_model.specs.QueryValues.{no_queries, queries}
use Rattle.fts_pack.specs.Documents.{block_count}
use Rattle.fts_postings.specs.Bounds.{most_at}
use Rattle.fts_segment.specs.Segments.{SegmentValue, postings}
use Rattle.fts_cursor.specs.Builds.{is_term, text_term}
use Rattle.fts_cursor.specs.Hits.{segment_hits}
use Rattle.fts_cursor.specs.Openings.{HasMusts, IsOfOneTerm, blocks_with, bound_for_musts, bound_of_all, most_for_musts}
use Rattle.fts_cursor.specs.Standing.{Standing}

-- the blocks that are opened at most and at least for a range that so many of some documents match: where it is one in
-- 256 or fewer, the lists of its numbers are read, whose blocks each have a document that no other has; else the column
-- is, and no block is opened
abbrev pub most_of_range : ℕ → ℕ → ℕ
most_of_range documents found = if nat_le found (documents / 256) then found else 0

abbrev pub least_of_range : ℕ → ℕ → ℕ
least_of_range documents found = if nat_le found (documents / 256) then block_count found else 0

-- what a cursor over the documents of a range opens
pub record OpensRange (documents : ℕ) (cursor : Standing) : Type 0 where
  pub most : most_at cursor.bound None ≤ most_of_range documents (length cursor.remaining)
  pub least : least_of_range documents (length cursor.remaining) ≤ cursor.openings

-- whether each of some queries is a term, and the documents that each finds
abbrev pub are_terms : QueryValues → Bool
are_terms no_queries = true
are_terms (queries q qs) = is_term q && are_terms qs

abbrev pub hits_each : SegmentValue → QueryValues → List (List ℕ)
hits_each segment no_queries = []
hits_each segment (queries q qs) = segment_hits segment q ∷ hits_each segment qs

-- the most blocks that the cursor of a query opens from its beginning to its end: all blocks of a term, for a phrase or
-- for musts that are terms the bound of their conjunction, for a range one for each document where few match, and else
-- those of all musts, or of all shoulds where there is none, and of all must-nots
abbrev mutual
  pub most_for : SegmentValue → QueryValue → ℕ
  most_for segment every = 0
  most_for segment nothing = 0
  most_for segment (term t) = blocks_with segment t
  most_for segment (phrase field pattern) = most_for_musts segment (map (λ m. text_term field m.1) pattern)
  most_for segment (range field lower upper) =
      most_of_range (length segment.documents) (length (segment_hits segment (range field lower upper)))
  most_for segment (boolean must must_not should) =
      (if are_some must
      then (if are_terms must then most_at (bound_of_all (hits_each segment must)) None else most_for_all segment must)
      else most_for_all segment should)
      + most_for_all segment must_not

  pub most_for_all : SegmentValue → QueryValues → ℕ
  most_for_all segment no_queries = 0
  most_for_all segment (queries q qs) = most_for segment q + most_for_all segment qs

-- several queries aren't all terms
abbrev pub are_mixed : QueryValues → Bool
are_mixed (queries q (queries w qs)) = not (are_terms (queries q (queries w qs)))
are_mixed qs = false

-- nothing says of a query that it opens blocks: it is Boolean, and has must-nots, or musts that aren't all terms, or no
-- must and several shoulds that aren't all terms
abbrev pub is_free : QueryValue → Bool
is_free (boolean must (queries q qs) should) = true
is_free (boolean (queries q qs) no_queries should) = not (are_terms (queries q qs))
is_free (boolean no_queries no_queries should) = are_mixed should
is_free query = false

-- the fewest blocks that the cursor of a range opens, as soon as it is made: few documents are read from the lists of
-- their numbers
abbrev pub least_for : SegmentValue → QueryValue → ℕ
least_for segment (range field lower upper) =
    least_of_range (length segment.documents) (length (segment_hits segment (range field lower upper)))
least_for segment query = 0

-- what the cursor of a query opens: no more blocks than is said of the query, for a range no fewer either, and for one
-- term, over whose list it goes, each block once. If all musts are terms and nothing else is asked, wherever it is, no
-- more than the blocks of the shortest list, and of each other list one, and one for each document of the shortest up
-- to there
pub record Opens (segment : SegmentValue) (query : QueryValue) (cursor : Standing) : Type 0 where
  pub most : most_at cursor.bound None ≤ most_for segment query
  pub least : least_for segment query ≤ cursor.openings
  pub one_term : (t : Term) → IsOfOneTerm query t →
      (cursor.whole ≡ true) × (most_at cursor.bound None ≡ blocks_with segment t)
  pub list : (t : Term) → IsOfOneTerm query t → cursor.list ≡ Some (postings segment t)
  pub musts : (terms : List Term) → HasMusts query terms → (doc : Option ℕ) →
      most_at cursor.bound doc ≤ most_at (bound_for_musts segment terms) doc
  pub opened : (terms : List Term) → HasMusts query terms → cursor.remaining ≢ [] → length terms ≤ cursor.openings
