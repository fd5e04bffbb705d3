use Rattle.std.proofs.Common.{◌≤◌, ◌*◌, arith, Fits-le, Fits-lit}
use Rattle.fts_merge.proofs.LevelsLemmas.{fourth_power-bound}
use Rattle.fts_merge.proofs.merge_plan.joins.Goals as goal

pub overflow_mul-result : goal.overflow_mul-result
overflow_mul-result c =
    let bound : 8 * c.fourth_power-2.result ≤ 9671406556917033397649408 =
    omega (arith, c.fourth_power-2.ensures, fourth_power-bound c.args.size c.requires.size) in
    Fits-le bound (Fits-lit tt)
