use Rattle.std.proofs.Common.{subst}
use Rattle.fts_model.specs.Shorts.{IsShort}
use Rattle.fts_scan.proofs.PlacesSought.{HasRoom-short}
use Rattle.fts_scan.proofs.matcher.value_has_phrase.Goals as goal

pub has_phrase-requires-in-Texts : goal.has_phrase-requires-in-Texts
has_phrase-requires-in-Texts c = HasRoom-short c.in-Texts.texts (subst IsShort c.in-Texts.is c.requires)
