use Rattle.std.proofs.Common.{◌≡◌, ◌∙◌, true, ℕ, Option, Some, sym, ap, subst, arith, option_map, IfSome}
use Rattle.std.specs.Prelude.{None, slice_index_or}
use Rattle.fts_model.specs.Queries.{is_ordered_field}
use Rattle.fts_model.specs.Answers.{groups}
use Rattle.fts_scan.proofs.AnswersSteps.{length-filter_map}
use Rattle.fts_parts.specs.Tallies.{present_at}
use Rattle.fts_parts.specs.Collected.{HasCounted, column_of, hits_at, named_by, value_at}
use Rattle.fts_parts.proofs.CollectLemmas.{groups_at}
use Rattle.fts_parts.proofs.seen.groups_told.Goals as goal

pub returns-in_ok-new-in-Some : goal.returns-in_ok-new-in-Some
returns-in_ok-new-in-Some c = λ docs counted few.
    let segment = c.args.segment.now in
    let f = c.in-Some.field in
    let P : Option ℕ → Type 0 = λ o. HasCounted segment o docs c.args.tally in
    let Q : Option ℕ → Type 0 = λ o. IfSome o (λ f. is_ordered_field segment.schema f ≡ true) in
    let here = subst P c.in-Some.is counted in
    let column = column_of segment f in
    ap Some (
    c.in_ok-new-in-Some.ensures
    ∙ ap (named_by (value_at segment f)) (c.in_ok-counts-in-Some.ensures (present_at column docs) here
    (omega (arith, few, length-filter_map (λ doc. slice_index_or column doc None) docs)))
    ∙ groups_at segment f docs c.requires.documents (subst Q c.in-Some.is c.requires.fits))
    ∙ ap (λ (o : Option ℕ). option_map (λ f. groups f (hits_at segment docs)) o) (sym c.in-Some.is)
