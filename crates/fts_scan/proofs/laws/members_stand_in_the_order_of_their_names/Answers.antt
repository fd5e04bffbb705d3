use Rattle.fts_scan.proofs.DocumentsNames.{read-NamesRiseWithin}
use Rattle.fts_scan.proofs.laws.members_stand_in_the_order_of_their_names.Goals as goal

pub returns : goal.returns
returns c = read-NamesRiseWithin
