-- The numbers of a field's index are those of the segment's documents.
use Rattle.std.proofs.Common.{◌≡◌, false, Some, ap, sym, subst, ◌∙◌}
use Rattle.std.specs.Option.{option_map_or}
use Rattle.fts_model.specs.Operations.{kind_at}
use Rattle.fts_model.specs.Schemas.{is_ordered}
use Rattle.fts_segment.specs.Between.{NumberColumn}
use Rattle.fts_segment.specs.FieldIndexes.{NumbersFit}
use Rattle.fts_segment.specs.SortedColumns.{IsOrdered, column_in}
use Rattle.fts_segment.specs.Segments.{SegmentValue}
use Rattle.fts_segment.specs.Occurrences.{values_in}
use Rattle.fts_segment.proofs.FieldLemmas.{stored_index, numbers_fit}
use Rattle.fts_segment.proofs.OrderedLemmas.{column_of-values}
use Rattle.fts_segment.proofs.StoredLemmas.{keeps}
use Rattle.fts_segment.proofs.segment.Segment.ordered.Goals as goal

pub ordered-requires-clause-is : goal.ordered-requires-clause-is
ordered-requires-clause-is c =
    let s = c.deref-stored.result.now in
    let k = keeps c.self.inside c.args.self.now s c.self.view_is c.self.invariant c.deref-stored.ensures in
    (values_in c.args.field s.documents.items, stored_index c.args.field c.kind.result c.index.result.now k.fields_are c.kind.ensures c.index.ensures)

pub ordered-requires-clause-ordered : goal.ordered-requires-clause-ordered
ordered-requires-clause-ordered c =
    let k = keeps c.self.inside c.args.self.now c.deref-stored.result.now c.self.view_is c.self.invariant c.deref-stored.ensures in
    ap (λ o. option_map_or is_ordered o false) (sym c.kind.ensures ∙ ap (λ v. kind_at v.schema c.args.field) k.value_is) ∙ c.requires

pub returns-clause-is : goal.returns-clause-is
returns-clause-is c =
    let s = c.deref-stored.result.now in
    let k = keeps c.self.inside c.args.self.now s c.self.view_is c.self.invariant c.deref-stored.ensures in
    let v : SegmentValue = record { schema = s.schema; documents = s.documents.items } in
    subst (λ (column : NumberColumn). IsOrdered column c.ordered.result)
    (column_of-values v c.args.field c.kind.result c.kind.ensures ∙ ap (λ v. column_in v c.args.field) k.value_is)
    (c.ordered.ensures (values_in c.args.field s.documents.items)
    (stored_index c.args.field c.kind.result c.index.result.now k.fields_are c.kind.ensures c.index.ensures))

pub returns-clause-fit : goal.returns-clause-fit
returns-clause-fit c kind is =
    let s = c.deref-stored.result.now in
    let k = keeps c.self.inside c.args.self.now s c.self.view_is c.self.invariant c.deref-stored.ensures in
    let found = stored_index c.args.field c.kind.result c.index.result.now k.fields_are c.kind.ensures c.index.ensures in
    let known : Some c.kind.result ≡ Some kind = sym c.kind.ensures ∙ ap (λ v. kind_at v.schema c.args.field) k.value_is ∙ is in
    let same : c.kind.result ≡ kind = cc in
    let fit : NumbersFit c.kind.result c.args.field s.documents.items =
    numbers_fit c.kind.result (values_in c.args.field s.documents.items) c.index.result.now.index found in
    subst (λ (v : SegmentValue). NumbersFit kind c.args.field v.documents) k.value_is (subst (λ k. NumbersFit k c.args.field s.documents.items) same fit)
