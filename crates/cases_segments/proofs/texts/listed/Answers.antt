use Rattle.std.proofs.Common.{◌≡◌, List, sym, subst}
use Rattle.std.specs.List.{All}
use Rattle.fts_text.specs.declared.tokenizer.Token.{Token}
use Rattle.fts_text.specs.Places.{places, places_left, IsPlaceIn}
use Rattle.fts_text.proofs.StretchLemmas.{All-IsPlaceIn, IsPlaceIn-first}
use Rattle.cases_segments.proofs.texts.listed.Goals as goal

pub loop-token-init : goal.loop-token-init
loop-token-init c =
    let start : places_left c.into_iter-token-iterator.result ≡ places c.args.text.now = cc in
    let P : List Token → Type 0 = All (IsPlaceIn c.args.text.now) in
    (tt, tt, subst P (sym start) (All-IsPlaceIn 0 c.args.text.now c.utf8.text))

pub span-requires : goal.span-requires
span-requires c =
    (IsPlaceIn-first c.args.text.now c.in-Some.token (places_left c.loop-token.token-iterator) (places_left c.next.new.self) c.in-Some.ensures.steps.0
    c.loop-token.invariant.2).0

pub loop-token-preserved : goal.loop-token-preserved
loop-token-preserved c = (
  tt,
  tt,
  (IsPlaceIn-first c.args.text.now c.in-Some.token (places_left c.loop-token.token-iterator) (places_left c.next.new.self) c.in-Some.ensures.steps.0
      c.loop-token.invariant.2).1,
)
