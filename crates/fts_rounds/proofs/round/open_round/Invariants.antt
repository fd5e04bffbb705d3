-- The first seat still represents the lanes that are not made yet.
use Rattle.std.proofs.Common.{◌≡◌, ◌+◌, ◌≤◌, map, ◌-◌, []}
use Rattle.std.specs.Arc.{arc_value}
use Rattle.std.specs.Vec.{vec_len, vec_capacity}
use Rattle.std.specs.List.{range_with_len}
use Rattle.fts_rounds.specs.Rounds.{fresh}
use Rattle.fts_rounds.specs.RoundsDrawn.{drawn}
use Rattle.fts_rounds.proofs.round.open_round.Given as goal

abbrev pub invariant-loop-lane : goal.invariant-loop-lane
invariant-loop-lane l = record {
  me : l.seat.me ≡ (drawn l.limits (l.lanes - l.lane) [], []);
  table : l.seat.table_id ≡ (arc_value l.table).shared.table_id;
  one_word : l.seat.table_id.words ≡ 1;
  dealt : l.dealt.items ≡ map (fresh record { table = l.seat.table_id; limits = l.limits }) (range_with_len 0 l.lane);
  room : vec_len l.dealt + (l.lanes - l.lane) ≤ vec_capacity l.dealt;
}
