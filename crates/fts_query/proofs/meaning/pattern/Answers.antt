use Rattle.std.proofs.Common.{◌≡◌, ◌++◌, ◌∷◌, [], arith}
use Rattle.fts_text.specs.Places.{places, places_left}
use Rattle.fts_query.proofs.MeaningsLemmas.{Gathers-start, Gathers-place, Gathers-next, position_fits, member}
use Rattle.fts_query.proofs.meaning.pattern.Goals as goal

pub loop-place-init : goal.loop-place-init
loop-place-init c =
    let start : places_left c.into_iter-place-iterator.result ≡ places c.args.text.now = cc in
    (tt, tt, Gathers-start c.args.text.now c.args.from c.new-pattern.result.items _ c.utf8.text c.new-pattern.ensures.items start)

pub overflow_cast-offset : goal.overflow_cast-offset
overflow_cast-offset c =
    let at = Gathers-place c.args.text.now c.args.from c.loop-place.pattern.items c.in-Some.place _ (places_left c.next.new.self) c.in-Some.ensures.steps.0
    c.loop-place.invariant.2 in
    let fits = position_fits c.args.text.now c.in-Some.place c.args.from c.requires at in
    omega (arith, fits, c.saturating_sub-offset.ensures)

pub token-requires : goal.token-requires
token-requires c = (Gathers-place c.args.text.now c.args.from c.loop-place.pattern.items c.in-Some.place _ (places_left c.next.new.self)
    c.in-Some.ensures.steps.0 c.loop-place.invariant.2).place

pub loop-place-preserved : goal.loop-place-preserved
loop-place-preserved c =
    let grown : c.push.new.self.items ≡ c.loop-place.pattern.items ++ member c.args.text.now c.args.from c.in-Some.place ∷ [] =
    cc (c.in_ok-push.ensures.items, c.in_ok-token.ensures, c.saturating_sub-offset.ensures) in (
      tt,
      tt,
      Gathers-next c.args.text.now c.args.from c.loop-place.pattern.items c.push.new.self.items c.in-Some.place _ (places_left c.next.new.self)
          c.in-Some.ensures.steps.0 grown c.loop-place.invariant.2,
    )
