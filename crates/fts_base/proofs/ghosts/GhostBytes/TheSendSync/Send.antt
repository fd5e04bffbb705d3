-- It has no data, so any thread may have it.
use denote.Param.Send.{IsSend}
use Rattle.fts_base.specs.contracts.ghosts.GhostBytes.{the_row}

pub send : IsSend the_row
send = record { owned = λ d vs. ((λ vss. (tt, tt)), tt); leaving = λ k f vs. tt }
