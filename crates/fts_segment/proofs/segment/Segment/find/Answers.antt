use Rattle.std.proofs.Common.{◌≡◌, ◌≤◌, ℕ, List, IfSome, length, ap, sym, subst, ◌∙◌, arith}
use Rattle.std.proofs.lemmas.Bool.{ltb-false}
use Rattle.std.proofs.lemmas.Option.{slice_get_past}
use Rattle.fts_segment.specs.ListIds.{positions_in}
use Rattle.fts_segment.specs.Segments.{SegmentValue, postings, positions, numbers_where}
use Rattle.fts_segment.specs.Occurrences.{holds, values_in}
use Rattle.fts_segment.specs.FieldIndexes.{IsFieldIndex}
use Rattle.fts_segment.proofs.FieldLemmas.{no_field, index_at, postings-kind}
use Rattle.fts_segment.proofs.PositionsLemmas.{positions-kind}
use Rattle.fts_segment.proofs.StoredLemmas.{keeps}
use Rattle.fts_segment.proofs.segment.Segment.find.Goals as goal

pub returns-in_err-field-clause-none : goal.returns-in_err-field-clause-none
returns-in_err-field-clause-none c =
    let s = c.deref-stored.result.now in
    let k = keeps c.self.inside c.args.self.now s c.self.view_is c.self.invariant c.deref-stored.ensures in
    let f = c.args.term.now.field in
    let past : length s.schema ≤ f =
    omega (arith, ltb-false f (length c.deref.result.now) (sym c.in_err-field.ensures.lookup.0), k.fields_are.count, ap length c.deref.ensures.value) in
    let v : SegmentValue = record { schema = s.schema; documents = s.documents.items } in
    rw c.from_residual.ensures (ap (λ v. postings v c.args.term.now) (sym k.value_is) ∙ no_field v c.args.term.now (slice_get_past s.schema f past))

pub find-requires : goal.find-requires
find-requires c =
    let s = c.deref-stored.result.now in
    let k = keeps c.self.inside c.args.self.now s c.self.view_is c.self.invariant c.deref-stored.ensures in (
      values_in c.args.term.now.field s.documents.items,
      index_at c.args.term.now.field c.kind.result c.in_ok-field.field.now c.deref.result.now k.fields_are c.kind.ensures c.deref.ensures.value
          c.in_ok-field.ensures.lookup.0 c.in_ok-field.ensures.lookup.1,
    )

-- the index is that of the values of the field
there : (c : goal.After-find) → IsFieldIndex c.kind.result (values_in c.args.term.now.field c.deref-stored.result.now.documents.items) c.in_ok-field.field.now.index
there c =
    let k = keeps c.self.inside c.args.self.now c.deref-stored.result.now c.self.view_is c.self.invariant c.deref-stored.ensures in
    index_at c.args.term.now.field c.kind.result c.in_ok-field.field.now c.deref.result.now k.fields_are c.kind.ensures c.deref.ensures.value
    c.in_ok-field.ensures.lookup.0 c.in_ok-field.ensures.lookup.1

postings_are : (c : goal.After-find) →
    numbers_where (holds c.kind.result c.args.term.now.value) 0 (values_in c.args.term.now.field c.deref-stored.result.now.documents.items)
    ≡ postings c.args.self.now c.args.term.now
postings_are c =
    let s = c.deref-stored.result.now in
    let k = keeps c.self.inside c.args.self.now s c.self.view_is c.self.invariant c.deref-stored.ensures in
    postings-kind (record { schema = s.schema; documents = s.documents.items }) c.args.term.now c.kind.result c.kind.ensures
    ∙ ap (λ v. postings v c.args.term.now) k.value_is

pub returns-clause-none : goal.returns-clause-none
returns-clause-none c = rw (← postings_are c) (c.find.ensures.none (values_in c.args.term.now.field c.deref-stored.result.now.documents.items) (there c))

pub returns-clause-documents : goal.returns-clause-documents
returns-clause-documents c =
    rw (← postings_are c) (c.find.ensures.documents (values_in c.args.term.now.field c.deref-stored.result.now.documents.items) (there c))

pub returns-clause-positions : goal.returns-clause-positions
returns-clause-positions c =
    let s = c.deref-stored.result.now in
    let k = keeps c.self.inside c.args.self.now s c.self.view_is c.self.invariant c.deref-stored.ensures in
    let v : SegmentValue = record { schema = s.schema; documents = s.documents.items } in
    let P : List (List ℕ) → Type 0 = λ ps. IfSome c.find.result (λ list. positions_in list ≡ ps) in
    subst P (positions-kind v c.args.term.now c.kind.result c.kind.ensures ∙ ap (λ v. positions v c.args.term.now) k.value_is)
    (c.find.ensures.positions (values_in c.args.term.now.field s.documents.items) (there c))
