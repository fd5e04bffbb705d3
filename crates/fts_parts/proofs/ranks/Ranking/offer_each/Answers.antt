use Rattle.std.proofs.Common.{◌<◌, ◌≡◌, ◌+◌, drop, length, take, refl, subst, sym, arith}
use Rattle.std.proofs.lemmas.List.{length-take-le}
use Rattle.fts_pack.proofs.ListsLemmas.{on_err}
use Rattle.fts_parts.specs.Keys.{TopKValue}
use Rattle.fts_parts.specs.Ranks.{Offers}
use Rattle.fts_parts.proofs.RanksLemmas.{Offers-part, Offers-step}
use Rattle.fts_parts.proofs.ranks.Ranking.offer_each.Goals as goal

pub loop-place-preserved : goal.loop-place-preserved
loop-place-preserved c =
    let l = c.loop-place in
    let docs = c.args.docs.now in
    let size : length (take l.left docs) ≡ l.left = length-take-le l.left docs l.invariant.within in
    let before : c.in-Some.place < l.left = omega (arith, size, c.in-Some.ensures.within) in
    record {
      kept = Offers-step c.args.self.now docs c.in-Some.place l.left c.args.top_k.now l.top_k c.offer_hit.new.top_k before l.invariant.within l.invariant.kept
          c.in-Some.ensures.behind c.in_ok-offer_hit.ensures.ok;
      within = omega (arith, before, l.invariant.within);
    }

pub returns-in_err-offer_hit-clause-err : goal.returns-in_err-offer_hit-clause-err
returns-in_err-offer_hit-clause-err c =
    let l = c.loop-place in
    let docs = c.args.docs.now in
    let size : length (take l.left docs) ≡ l.left = length-take-le l.left docs l.invariant.within in
    let before : c.in-Some.place < l.left = omega (arith, size, c.in-Some.ensures.within) in
    let P : TopKValue → Type 0 = Offers c.args.self.now (drop (c.in-Some.place + 1) docs) c.args.top_k.now in
    on_err c.from_residual.result _ (record {
      place = c.in-Some.place;
      within = omega (arith, before, l.invariant.within);
      offered =
          subst P (sym c.in_err-offer_hit.ensures.err)
          (Offers-part c.args.self.now docs (c.in-Some.place + 1) l.left c.args.top_k.now l.top_k l.top_k (omega (arith, before)) l.invariant.within
          l.invariant.kept c.in-Some.ensures.behind);
    })

pub returns-clause-ok : goal.returns-clause-ok
returns-clause-ok c =
    let l = c.loop-place in
    Offers-part c.args.self.now c.args.docs.now 0 l.left c.args.top_k.now l.top_k l.top_k (omega arith) l.invariant.within l.invariant.kept
    (c.in_default.ensures.none refl)
