use Rattle.std.proofs.Common.{◌<◌}
use Rattle.fts_model.proofs.OperationsAlive.{alive-pairs}
use Rattle.fts_scan.proofs.laws.alive_is_in_the_order_of_stamps.Goals as goal

pub returns : goal.returns
returns c = alive-pairs (λ s t. s < t)
