use Rattle.fts_text.proofs.StretchLemmas.{All-IsPlaceFrom, following-le, length-places, tokens-places}
use Rattle.fts_text.proofs.laws.places_have_tokens.Goals as goal

pub returns : goal.returns
returns c = record {
  tokens = tokens-places c.args.first c.args.text.now c.utf8.text;
  within = All-IsPlaceFrom c.args.first c.args.text.now c.utf8.text;
  few = length-places c.args.first c.args.text.now c.utf8.text;
  following = following-le c.args.first c.args.text.now c.utf8.text;
}
