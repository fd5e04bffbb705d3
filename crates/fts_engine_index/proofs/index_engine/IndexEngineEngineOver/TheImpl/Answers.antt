-- A runtime that lasts is shared as any other is.
use denote.Param.Send.{given_sync, param_sync}
use Rattle.fts_engine_index.proofs.index_engine.IndexEngineEngineOver.TheImpl.Goals as goal

pub commit-asks : goal.commit-asks
commit-asks g c = record { changes = c.requires.changes; sync = param_sync 0 g.row.R (given_sync 1 g.row.R c.requires.sync) }
