use Rattle.fts_scan.proofs.QueriesPhrases.{phrase_in-PhraseIn}
use Rattle.fts_scan.proofs.laws.phrase_stands_at_its_offsets.Goals as goal

pub returns : goal.returns
returns c = phrase_in-PhraseIn
