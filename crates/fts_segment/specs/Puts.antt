-- Postings that are appended to others.
use Rattle.std.specs.Prelude.{◌≡◌, ◌++◌, ℕ, List}
use Rattle.fts_positions.specs.declared.position_lists.PositionListLog.{PositionListLog}
use Rattle.fts_positions.specs.PositionListLogs.{IsPositionListLog, logged_position_lists}
use Rattle.fts_segment.specs.Postings.{Posting, documents, position_lists}

-- postings were appended: their documents to `docs`, and their positions to a log
pub record Puts
    (postings : List Posting) (docs : List ℕ) (log : PositionListLog) (new_docs : List ℕ) (new_log : PositionListLog)
    : Type 0 where
  pub is : IsPositionListLog new_log
  pub documents_are : new_docs ≡ docs ++ documents postings
  pub positions_are : logged_position_lists new_log ≡ logged_position_lists log ++ position_lists postings
