use Rattle.std.proofs.Common.{refl}
use Rattle.fts_text.specs.Tokens.{following}
use Rattle.fts_text.specs.Places.{following_left, places_from, places_left}
use Rattle.fts_text.proofs.tokenizer.Tokens.over.Goals as goal

pub returns-clause-tokens : goal.returns-clause-tokens
unfolding places_from places_left
returns-clause-tokens c = refl

pub returns-clause-following : goal.returns-clause-following
unfolding following following_left
returns-clause-following c = refl
