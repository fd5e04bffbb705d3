-- How hits are taken, some at a time.
use Rattle.std.specs.Prelude.{◌≡◌, ℕ, List, [], ◌++◌}
use Rattle.fts_model.specs.declared.query.Request.{Request}
use Rattle.fts_segment.specs.Segments.{SegmentValue}
use Rattle.fts_parts.specs.declared.seen.Seen.{Seen}
use Rattle.fts_parts.specs.Collected.{HasSeen}

-- some of all these documents were looked at, some were taken and are looked at next, and the others remain
pub record IsUnderWay
    (segment : SegmentValue) (request : Request) (all docs remaining : List ℕ) (seen : Seen) : Type 0 where
  pub before : List ℕ
  pub seen_is : HasSeen segment request before seen
  pub rest : before ++ (docs ++ remaining) ≡ all
  pub end : docs ≡ [] → remaining ≡ []
