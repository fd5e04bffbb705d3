-- Queries that must all match, by a set and by cursors.
use Rattle.std.specs.Prelude.{◌≡◌, ℕ, ◌≤◌, ◌&&◌, nat_lt, Bool, false, List, length, map}
use Rattle.fts_model.specs.declared.query.Query.{Query}
use Rattle.fts_model.specs.QueryValues.{query_list, query_value}
use Rattle.fts_pack.specs.Documents.{Rises}
use Rattle.fts_postings.specs.Sets.{has, in_all}
use Rattle.fts_segment.specs.Segments.{SegmentValue}
use Rattle.fts_cursor.specs.Most.{most_for_all}
use Rattle.fts_cursor.specs.Tests.{hits_of_each}
use Rattle.fts_cursor.specs.TreeValues.{TreeValue, all_most, remains}

-- a set and cursors that have in common what all queries find, and the cursors open no more than is said of the queries:
-- if the set tells of none of them, there is a cursor for each
pub record AreMusts (segment : SegmentValue) (qs : List Query) (is_told : Bool) (set : List ℕ) (parts : List TreeValue)
    : Type 0 where
  pub same : (d : ℕ) → (has set d && in_all (remains parts) d)
      ≡ (nat_lt d (length segment.documents) && in_all (hits_of_each segment qs) d)
  pub rises : Rises 0 set
  pub untold : is_told ≡ false → remains parts ≡ hits_of_each segment qs
  pub most : all_most parts ≤ most_for_all segment (query_list (map query_value qs))
