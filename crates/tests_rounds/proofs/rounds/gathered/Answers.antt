-- The threads' ends are those of the lanes that the round was opened with.
use Rattle.std.proofs.Common.{refl}
use Rattle.fts_rounds.proofs.RoundsDealtLemmas.{all_of_round, all_once}
use Rattle.tests_rounds.proofs.rounds.gathered.Goals as goal

pub gather-requires-clause-lanes : goal.gather-requires-clause-lanes
gather-requires-clause-lanes g c =
    let ends = c.all_filled-ends.ensures in
    all_of_round c.args.round c.args.lanes.items c.all_filled-ends.result.items c.args.round.limits.lanes c.requires refl ends.len ends.same

pub gather-requires-clause-each_once : goal.gather-requires-clause-each_once
gather-requires-clause-each_once g c =
    let ends = c.all_filled-ends.ensures in
    all_once c.args.round c.args.lanes.items c.all_filled-ends.result.items c.args.round.limits.lanes c.requires refl ends.len ends.same
