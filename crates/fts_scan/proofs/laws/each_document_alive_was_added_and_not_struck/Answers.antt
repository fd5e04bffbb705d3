use Rattle.fts_model.proofs.OperationsByStamps.{Contains-alive}
use Rattle.fts_scan.proofs.laws.each_document_alive_was_added_and_not_struck.Goals as goal

pub returns : goal.returns
returns c = Contains-alive
