use Rattle.fts_scan.proofs.AnswersGroups.{IsGroups-one}
use Rattle.fts_scan.proofs.laws.there_is_one_list_of_groups.Goals as goal

pub returns : goal.returns
returns c = IsGroups-one
