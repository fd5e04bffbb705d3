-- Queries of which one must match, by bits and by cursors.
use Rattle.std.specs.Prelude.{◌≡◌, ℕ, ◌^◌, ◌≤◌, ◌||◌, Bool, List, All, length, map}
use Rattle.std.specs.Borrow.{Bor}
use Rattle.fts_model.specs.declared.query.Query.{Query}
use Rattle.fts_model.specs.QueryValues.{query_list, query_value}
use Rattle.fts_segment.specs.Segments.{SegmentValue}
use Rattle.fts_postings.specs.Sets.{in_some}
use Rattle.fts_sets.specs.Leaves.{in_one}
use Rattle.fts_cursor.specs.Hits.{segment_hits}
use Rattle.fts_cursor.specs.Most.{most_for_all}
use Rattle.fts_cursor.specs.TreeValues.{TreeValue, all_most, remains}

-- bits and cursors that have together what some queries find, and the cursors open no more than is said of the queries
pub record AreShoulds (segment : SegmentValue) (qs : List Query) (bits : List (Bor (List Bool)))
    (parts : List TreeValue) : Type 0 where
  pub same : (d : ℕ) → in_some (map (λ q. segment_hits segment (query_value q)) qs) d
      ≡ (in_one bits d || in_some (remains parts) d)
  pub few : All (λ b. length b.now ≤ 2 ^ 32) bits
  pub most : all_most parts ≤ most_for_all segment (query_list (map query_value qs))
