-- The terms of a field's index are those of the segment's documents.
use Rattle.std.proofs.Common.{◌≡◌, true, Some, ap, sym, subst, ◌∙◌}
use Rattle.std.specs.Option.{option_map_or}
use Rattle.fts_model.specs.Operations.{kind_at}
use Rattle.fts_model.specs.Schemas.{holds_numbers}
use Rattle.fts_segment.specs.FieldIndexes.{AreTerms}
use Rattle.fts_segment.specs.Segments.{SegmentValue}
use Rattle.fts_segment.specs.Occurrences.{values_in}
use Rattle.fts_segment.proofs.FieldLemmas.{stored_index}
use Rattle.fts_segment.proofs.StoredLemmas.{keeps}
use Rattle.fts_segment.proofs.segment.Segment.dictionary.Goals as goal

pub dictionary-requires-clause-is : goal.dictionary-requires-clause-is
dictionary-requires-clause-is c =
    let s = c.deref-stored.result.now in
    let k = keeps c.self.inside c.args.self.now s c.self.view_is c.self.invariant c.deref-stored.ensures in
    (values_in c.args.field s.documents.items, stored_index c.args.field c.kind.result c.index.result.now k.fields_are c.kind.ensures c.index.ensures)

pub dictionary-requires-clause-terms : goal.dictionary-requires-clause-terms
dictionary-requires-clause-terms c =
    let k = keeps c.self.inside c.args.self.now c.deref-stored.result.now c.self.view_is c.self.invariant c.deref-stored.ensures in
    ap (λ o. option_map_or holds_numbers o true) (sym c.kind.ensures ∙ ap (λ v. kind_at v.schema c.args.field) k.value_is) ∙ c.requires

pub returns : goal.returns
returns c kind is =
    let s = c.deref-stored.result.now in
    let k = keeps c.self.inside c.args.self.now s c.self.view_is c.self.invariant c.deref-stored.ensures in
    let terms = c.dictionary.ensures (values_in c.args.field s.documents.items) (stored_index c.args.field c.kind.result c.index.result.now k.fields_are
    c.kind.ensures c.index.ensures) in
    let known : Some c.kind.result ≡ Some kind = sym c.kind.ensures ∙ ap (λ v. kind_at v.schema c.args.field) k.value_is ∙ is in
    let same : c.kind.result ≡ kind = cc in
    subst (λ (v : SegmentValue). AreTerms kind (values_in c.args.field v.documents) c.dictionary.result.now) k.value_is
    (subst (λ k. AreTerms k (values_in c.args.field s.documents.items) c.dictionary.result.now) same terms)
