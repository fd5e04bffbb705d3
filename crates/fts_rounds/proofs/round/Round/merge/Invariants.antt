-- The operations that are merged so far, and that there is capacity for the rest.
use Rattle.std.proofs.Common.{◌≡◌, ◌+◌, ◌<◌, ◌≤◌, length, vec_len, All}
use Rattle.std.specs.Vec.{vec_capacity}
use Rattle.std.specs.Arc.{arc_value}
use Rattle.fts_rounds.specs.Rounds.{IsLaneOf}
use Rattle.fts_rounds.specs.Shuffles.{submissions}
use Rattle.fts_rounds.proofs.RoundsMergingLemmas.{Merging}
use Rattle.fts_rounds.proofs.round.Round.merge.Given as goal

abbrev pub invariant-loop-end : goal.invariant-loop-end
invariant-loop-end l = record {
  state : Merging l.fn.ends.items l.ends.items l.ops.items l.limits l.seat.me;
  lanes : All (IsLaneOf l.fn.self) l.ends.items;
  table : l.seat.table_id ≡ (arc_value l.table).shared.table_id;
  round : l.seat.table_id ≡ l.fn.self.table;
  limits : l.limits ≡ l.fn.self.limits;
  some_lane : 0 < l.limits.lanes;
  one_word : l.seat.table_id.words ≡ 1;
  room : vec_len l.ops + length (submissions l.ends.items) ≤ vec_capacity l.ops;
}

abbrev pub decreases-loop-end : goal.decreases-loop-end
decreases-loop-end l = goal.left-loop-end l
