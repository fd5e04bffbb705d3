use Rattle.fts_scan.proofs.AnswersGroups.{groups-IsGroups}
use Rattle.fts_scan.proofs.laws.groups_are_groups.Goals as goal

pub returns : goal.returns
returns c = groups-IsGroups
