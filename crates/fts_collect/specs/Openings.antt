-- How many blocks a segment opens to answer from its hits.
use Rattle.std.specs.Prelude.{◌≡◌, ℕ, ◌-◌, ◌^◌, ◌≤◌, List, [], None, if◌then◌else◌, length, min, nat_lt}
use Rattle.fts_model.specs.declared.operation.Term.{Term}
use Rattle.fts_model.specs.QueryValues.{QueryValue}
use Rattle.fts_segment.specs.Segments.{SegmentValue}
use Rattle.fts_parts.specs.Parts.{PartValue}
use Rattle.fts_cursor.specs.Most.{Opens, least_for, most_for}
use Rattle.fts_cursor.specs.Openings.{HasMusts, IsOfOneTerm, blocks_with, most_for_musts}
use Rattle.fts_cursor.specs.Standing.{Standing, Walked}
use Rattle.fts_postings.specs.Bounds.{most_at}

-- the bounds on how many blocks a search opens: at least and at most for any query, exactly for one term, and at least
-- and at most for a conjunction of terms
pub record AreOpenings (query : QueryValue) (fewest greatest : ℕ)
    (blocks : Term → ℕ) (least most : List Term → ℕ) (openings : ℕ) : Type 0 where
  pub from : fewest ≤ openings
  pub up_to : openings ≤ greatest
  pub one_term : (t : Term) → IsOfOneTerm query t → openings ≡ blocks t
  pub opened : (terms : List Term) → HasMusts query terms → least terms ≤ openings
  pub musts : (terms : List Term) → HasMusts query terms → openings ≤ most terms

-- how many blocks one segment opens: what holds of the query's cursor, all of a term's list, and, if a conjunction has
-- a hit, at least one of each term's
abbrev pub OpensIn : SegmentValue → QueryValue → PartValue → Type 0
OpensIn segment query part =
    AreOpenings query (least_for segment query) (most_for segment query)
    (blocks_with segment) (λ terms. if nat_lt 0 part.answer.count then length terms else 0) (most_for_musts segment)
    part.openings

-- they are what the cursor of the query had opened when it was walked to its end, or the greatest number of 64 bits
pub record AreWalked (segment : SegmentValue) (query : QueryValue) (openings : ℕ) : Type 0 where
  pub cursor : Standing
  pub opens : Opens segment query cursor
  pub end : Standing
  pub walked : Walked cursor end
  pub none : end.remaining ≡ []
  pub within : end.openings ≤ most_at end.bound None
  pub told : openings ≡ min (2 ^ 64 - 1) end.openings
