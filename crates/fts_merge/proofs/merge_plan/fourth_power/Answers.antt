use Rattle.std.proofs.Common.{arith, lt_of_le_of_lt, lit<}
use Rattle.fts_merge.proofs.LevelsLemmas.{fourth_power-bound}
use Rattle.fts_merge.proofs.merge_plan.fourth_power.Goals as goal

pub pow-requires : goal.pow-requires
pow-requires c = lt_of_le_of_lt (fourth_power-bound c.from.result (omega arith)) (lit< tt)
