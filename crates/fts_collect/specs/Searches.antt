-- What a search of a snapshot returns, and how many blocks it opens.
use Rattle.std.specs.Prelude.{◌≡◌, ℕ, ◌-◌, ◌*◌, ◌^◌, Bool, List, length, min, sum_by, count_by}
use Rattle.std.specs.List.{AllZip, list_any}
use Rattle.fts_model.specs.declared.schema.Field.{Field}
use Rattle.fts_model.specs.declared.operation.Term.{Term}
use Rattle.fts_model.specs.declared.query.Request.{Request}
use Rattle.fts_model.specs.Queries.{matches}
use Rattle.fts_model.specs.QueryValues.{QueryValue}
use Rattle.fts_model.specs.Answers.{answer}
use Rattle.fts_cursor.specs.Most.{least_for, most_for}
use Rattle.fts_cursor.specs.Openings.{blocks_with, most_for_musts}
use Rattle.fts_parts.specs.Parts.{PartValue}
use Rattle.fts_collect.specs.Openings.{AreOpenings, AreWalked, OpensIn}
use Rattle.fts_snapshots.specs.Entries.{EntryValue, live_in}
use Rattle.fts_snapshots.specs.Snapshots.{SnapshotValue}

-- a part is the answer over the live hits of one segment
pub record IsPartOf (query : QueryValue) (request : Request) (entry : EntryValue) (part : PartValue) : Type 0 where
  pub answer : part.answer ≡ answer entry.segment.schema query request (live_in entry)
  pub openings : OpensIn entry.segment query part
  pub walked : AreWalked entry.segment query part.openings

-- how many blocks the lists of a term have in all segments
abbrev pub blocks_in : List EntryValue → Term → ℕ
blocks_in entries t = sum_by (λ entry. blocks_with entry.segment t) entries

-- the most blocks that a conjunction of terms opens in all segments
abbrev pub most_in : List EntryValue → List Term → ℕ
most_in entries terms = sum_by (λ entry. most_for_musts entry.segment terms) entries

-- whether a segment has a live hit
abbrev pub has_hit : List Field → QueryValue → EntryValue → Bool
has_hit schema query entry = list_any (λ d. matches schema d.value query) (live_in entry)

-- the fewest blocks that a conjunction of terms opens: one for each term in each segment with a hit
abbrev pub least_in : List Field → QueryValue → List EntryValue → List Term → ℕ
least_in schema query entries terms = length terms * count_by (has_hit schema query) entries

-- how many blocks a query's cursors open in all segments at least and at most
abbrev pub fewest_in : List EntryValue → QueryValue → ℕ
fewest_in entries query = sum_by (λ entry. least_for entry.segment query) entries

abbrev pub greatest_in : List EntryValue → QueryValue → ℕ
greatest_in entries query = sum_by (λ entry. most_for entry.segment query) entries

-- how many blocks a search of a snapshot opens: at least and at most for any query, exactly for one term, at least and
-- at most for a conjunction of terms
abbrev pub OpensInAll : SnapshotValue → QueryValue → ℕ → Type 0
OpensInAll snapshot query openings =
    AreOpenings query (min (2 ^ 64 - 1) (fewest_in snapshot.entries query)) (greatest_in snapshot.entries query)
    (λ t. min (2 ^ 64 - 1) (blocks_in snapshot.entries t))
    (λ terms. min (2 ^ 64 - 1) (least_in snapshot.schema query snapshot.entries terms))
    (most_in snapshot.entries) openings

-- a search opened what its parts did together, one for each segment
pub record AreOfParts (query : QueryValue) (request : Request) (snapshot : SnapshotValue) (openings : ℕ) : Type 0 where
  pub parts : List PartValue
  pub each : AllZip (IsPartOf query request) snapshot.entries parts
  pub sum : openings ≡ min (2 ^ 64 - 1) (sum_by (λ part. part.openings) parts)
