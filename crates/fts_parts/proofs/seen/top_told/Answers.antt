use Rattle.std.proofs.Common.{◌≡◌, ◌∙◌, true, List, Option, Some, sym, ap, subst, map, option_map, IfSome}
use Rattle.std.specs.Prelude.{slice_get}
use Rattle.fts_model.specs.declared.schema.Field.{Field}
use Rattle.fts_model.specs.declared.query.Top.{Top}
use Rattle.fts_model.specs.Queries.{is_number_field}
use Rattle.fts_model.specs.Answers.{top}
use Rattle.fts_model.specs.Operations.{kind_at}
use Rattle.fts_parts.specs.Keys.{TopKValue}
use Rattle.fts_parts.specs.Ranks.{hit_of}
use Rattle.fts_parts.specs.Collected.{HasRanked, hits_at}
use Rattle.fts_parts.proofs.RanksLemmas.{top-keys}
use Rattle.fts_parts.proofs.CollectLemmas.{number_field}
use Rattle.fts_parts.proofs.seen.top_told.Goals as goal

pub returns-in_ok-hits_of-in-Some : goal.returns-in_ok-hits_of-in-Some
returns-in_ok-hits_of-in-Some c = λ docs ranked are.
    let segment = c.args.segment.now in
    let t = c.in-Some.top in
    let kind = c.kind-kind.result in
    let P : Option Top → Type 0 = λ o. HasRanked segment o docs c.args.top_k in
    let Q : Option Top → Type 0 = λ o. IfSome o (λ t. is_number_field segment.schema t.by ≡ true) in
    let here = subst P c.in-Some.is ranked in
    let known : kind_at segment.schema t.by ≡ Some kind = ap (λ (s : List Field). option_map (λ g. g.kind) (slice_get s t.by)) (sym c.schema.ensures)
    ∙ c.kind-kind.ensures in
    let is = number_field segment t.by kind c.requires.documents known (subst Q c.in-Some.is c.requires.fits) in
    ap Some (
    c.in_ok-hits_of-in-Some.ensures
    ∙ ap (map (hit_of kind t.order segment.documents)) (c.deref.ensures.value ∙ c.into_keys-keys.ensures ∙ ap (λ (l : TopKValue). l.keys) here)
    ∙ top-keys segment t.by kind t.k t.order docs is are.rise)
    ∙ ap (λ (o : Option Top). option_map (λ t. top t.k t.order t.by (hits_at segment docs)) o) (sym c.in-Some.is)
