use Rattle.std.proofs.Common.{subst}
use Rattle.fts_model.specs.Shorts.{IsShort}
use Rattle.fts_scan.proofs.PlacesSought.{HasRoom-short}
use Rattle.fts_scan.proofs.terms.value_has.Goals as goal

pub has_token-requires-in-Text-kind : goal.has_token-requires-in-Text-kind
has_token-requires-in-Text-kind c = HasRoom-short c.in-Texts-Text.texts (subst IsShort c.in-Texts-Text.is-0 c.requires)
