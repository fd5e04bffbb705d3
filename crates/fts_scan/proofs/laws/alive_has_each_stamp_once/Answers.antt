use Rattle.std.proofs.Common.{◌≢◌}
use Rattle.fts_model.proofs.OperationsAlive.{alive-pairs}
use Rattle.fts_scan.proofs.laws.alive_has_each_stamp_once.Goals as goal

pub returns : goal.returns
returns c = alive-pairs (λ s t. s ≢ t)
