use Rattle.fts_positions.specs.PositionListLogs.{IsPositionListLog, logged_position_lists}
use Rattle.fts_segment.proofs.PartLemmas.{left}
use Rattle.fts_segment.proofs.JoiningLemmas.{IsJoining}
use Rattle.fts_segment.proofs.term_merge.merge_terms.Given as goal

abbrev pub invariant-loop-term : goal.invariant-loop-term
invariant-loop-term l = record {
  joining : IsJoining l.fn.parts l.parts l.writer.names l.writer.lists (logged_position_lists l.writer.positions);
  is : IsPositionListLog l.writer.positions;
}

abbrev pub decreases-loop-term : goal.decreases-loop-term
decreases-loop-term l = left l.parts
