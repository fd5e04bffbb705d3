use Rattle.std.proofs.Common.{◌≡◌, Some, None, sym, subst, ◌∙◌}
use Rattle.fts_segment.specs.declared.field_index.FieldIndex.{FieldIndex}
use Rattle.fts_segment.specs.Segments.{number_of}
use Rattle.fts_segment.specs.FieldIndexes.{IsFieldIndex}
use Rattle.fts_segment.proofs.FieldLemmas.{if_none, if_some, number_absent, number_found, none_without}
use Rattle.fts_segment.proofs.field_index.FieldIndex.find.Goals as goal

pub returns-in_err-number_in-in-Numbers-clause-none : goal.returns-in_err-number_in-in-Numbers-clause-none
returns-in_err-number_in-in-Numbers-clause-none c vs a =
    let P : FieldIndex → Type 0 = IsFieldIndex c.args.kind vs in
    let is : number_of c.args.kind (Some c.args.term.now) ≡ None = sym c.number_in.ensures.number ∙ c.in_err-number_in-in-Numbers.was in
    rw c.from_residual.ensures (none_without c.args.term.now (subst P c.in-Numbers.is a) is)

is_of : (c : goal.After-find) → number_of c.args.kind (Some c.args.term.now) ≡ Some c.in_ok-number_in-in-Numbers.field-0
is_of c = sym c.number_in.ensures.number ∙ c.in_ok-number_in-in-Numbers.was

pub returns-in_ok-number_in-in-Numbers-clause-none : goal.returns-in_ok-number_in-in-Numbers-clause-none
returns-in_ok-number_in-in-Numbers-clause-none c vs a =
    let P : FieldIndex → Type 0 = IsFieldIndex c.args.kind vs in
    if_none _ c.find.result c.find.ensures (λ absent. number_absent c.args.term.now c.in_ok-number_in-in-Numbers.field-0 (subst P c.in-Numbers.is a) (is_of c)
    c.number_in.ensures.fits absent)

pub returns-in_ok-number_in-in-Numbers-clause-some : goal.returns-in_ok-number_in-in-Numbers-clause-some
returns-in_ok-number_in-in-Numbers-clause-some c =
    let P : FieldIndex → Type 0 = IsFieldIndex c.args.kind c.requires.0 in
    if_some _ _ _ c.find.result c.find.ensures (λ list found. λ none.
    (number_found c.args.term.now c.in_ok-number_in-in-Numbers.field-0 found.0 (subst P c.in-Numbers.is c.requires.1) (is_of c) c.number_in.ensures.fits
    found.1).1 (sym found.2 ∙ none))

pub returns-in_ok-number_in-in-Numbers-clause-documents : goal.returns-in_ok-number_in-in-Numbers-clause-documents
returns-in_ok-number_in-in-Numbers-clause-documents c vs a =
    let P : FieldIndex → Type 0 = IsFieldIndex c.args.kind vs in
    if_some _ _ _ c.find.result c.find.ensures (λ list found.
    found.2 ∙ (number_found c.args.term.now c.in_ok-number_in-in-Numbers.field-0 found.0 (subst P c.in-Numbers.is a) (is_of c) c.number_in.ensures.fits
    found.1).0)
