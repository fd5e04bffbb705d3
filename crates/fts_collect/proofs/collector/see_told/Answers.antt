use Rattle.std.proofs.Common.{◌≡◌, true, ℕ, List, [], Option, Some, IfSome, sym, subst}
use Rattle.fts_model.specs.declared.query.Top.{Top}
use Rattle.fts_model.specs.Queries.{is_number_field}
use Rattle.fts_parts.specs.Collected.{AreHits, HasRanked}
use Rattle.fts_parts.proofs.CollectLemmas.{fits-top}
use Rattle.fts_collect.proofs.WalkedLemmas.{ranked-none}
use Rattle.fts_collect.proofs.collector.see_told.Goals as goal

pub offer_best-requires-clause-number : goal.offer_best-requires-clause-number
offer_best-requires-clause-number c =
    let Q : Option Top → Type 0 = λ o. IfSome o (λ t. is_number_field c.args.segment.now.schema t.by ≡ true) in
    subst Q c.requires.top (fits-top c.args.segment.now.schema c.args.request.now c.requires.fits)

pub see_beside-requires-clause-ranked : goal.see_beside-requires-clause-ranked
see_beside-requires-clause-ranked c =
    let P : List ℕ → Type 0 = λ ds. HasRanked c.args.segment.now (Some c.args.top) ds c.offer_best.new.top_k in
    subst P (sym c.requires.told) (c.in_ok-done.ensures.offered c.if-done.true [] (ranked-none c.args.segment.now c.args.top c.new-top_k.result
    c.new-top_k.ensures))

pub offer_best-requires-clause-hits : goal.offer_best-requires-clause-hits
offer_best-requires-clause-hits c = subst (AreHits c.args.segment.now) c.requires.told c.requires.hits
