use Rattle.fts_scan.proofs.AnswersTop.{top-IsTop}
use Rattle.fts_scan.proofs.laws.top_is_a_top_list.Goals as goal

pub returns : goal.returns
returns c = top-IsTop
