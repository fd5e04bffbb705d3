use Rattle.fts_pack.proofs.SumLemmas.{four_documents}
use Rattle.fts_pack.proofs.prefix_sums.documents.Goals as goal

pub returns : goal.returns
returns c = four_documents c.args.last c.fits-last.0 c.args.sums c.fits-sums.0
