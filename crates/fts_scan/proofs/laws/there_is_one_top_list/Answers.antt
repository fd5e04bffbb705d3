use Rattle.fts_scan.proofs.AnswersTop.{IsTop-one}
use Rattle.fts_scan.proofs.laws.there_is_one_top_list.Goals as goal

pub returns : goal.returns
returns c = IsTop-one
