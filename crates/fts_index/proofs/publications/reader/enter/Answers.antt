use Rattle.std.proofs.Common.{refl}
use Rattle.fts_index.proofs.PublicationsShownLemmas.{looks}
use Rattle.fts_index.proofs.publications.reader.enter.Goals as goal

pub enter_as-requires : goal.enter_as-requires
enter_as-requires c x = looks _ _ x x refl
