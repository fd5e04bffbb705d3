use Rattle.std.proofs.Common.{◌≡◌, true, Option, length, ap, sym, subst, ◌∙◌}
use Rattle.std.specs.Option.{option_map_or}
use Rattle.std.proofs.lemmas.List.{length-map}
use Rattle.fts_model.specs.declared.operation.Stamped.{Stamped}
use Rattle.fts_model.specs.declared.value.FieldValue.{FieldValue}
use Rattle.fts_model.specs.Documents.{DocumentValue, value_in_field}
use Rattle.fts_model.specs.Operations.{kind_at}
use Rattle.fts_model.specs.Schemas.{holds_numbers}
use Rattle.fts_segment.specs.FieldIndexes.{AreTerms}
use Rattle.fts_segment.specs.Occurrences.{values_in}
use Rattle.fts_segment.specs.Parts.{IsPart, renumbered}
use Rattle.fts_segment.specs.Segments.{SegmentValue}
use Rattle.fts_segment.proofs.MovingLemmas.{length-renumbered}
use Rattle.fts_segment.proofs.SourceLemmas.{part-is, terms-whole}
use Rattle.fts_segment.proofs.dictionary_merge.stream_of.Goals as goal
use Rattle.fts_segment.proofs.dictionary_merge.stream_of.Goals.{In_ok-numbers}

pub dictionary-terms-requires : goal.dictionary-terms-requires
dictionary-terms-requires c =
    ap (λ o. option_map_or holds_numbers o true) (ap (λ (s : SegmentValue). kind_at s.schema c.args.field) c.segment.ensures.segment ∙ c.requires.kind)
    ∙ c.requires.terms

terms_of : (c : In_ok-numbers) → AreTerms c.args.kind (values_in c.args.field c.args.source.now.segment.documents) c.dictionary-terms.result.now
terms_of c =
    subst (λ (s : SegmentValue). AreTerms c.args.kind (values_in c.args.field s.documents) c.dictionary-terms.result.now) c.segment.ensures.segment
    (c.dictionary-terms.ensures c.args.kind (ap (λ (s : SegmentValue). kind_at s.schema c.args.field) c.segment.ensures.segment ∙ c.requires.kind))

numbers_of : (c : In_ok-numbers) → c.in_ok-numbers.numbers ≡ renumbered c.args.next c.args.source.now.live
numbers_of c = c.in_ok-numbers.ensures ∙ ap (renumbered c.args.next) c.live.ensures.live

pub new-requires-2 : goal.new-requires-2
new-requires-2 c =
    let a = (goal.at.new-requires-2 c).In_ok-numbers in
    let source = c.args.source.now in
    let value : Stamped DocumentValue → Option FieldValue = λ d. value_in_field d.value c.args.field in
    terms-whole c.args.kind (values_in c.args.field source.segment.documents) c.dictionary-terms.result.now c.in_ok-numbers.numbers (terms_of a)
    (ap length (numbers_of a) ∙ length-renumbered c.args.next source.live ∙ c.live.ensures.bits ∙ sym (length-map source.segment.documents value))

pub returns-clause-is : goal.returns-clause-is
returns-clause-is c =
    let a = (goal.at.returns-clause-is c).In_ok-numbers in
    let kind = c.args.kind in
    let source = c.args.source.now in
    let d = c.dictionary-terms.result.now in
    subst (IsPart kind c.args.field c.args.next source) (sym c.new-2.ensures) (part-is kind c.args.field c.args.next source d c.in_ok-numbers.numbers
    (terms_of a) (numbers_of a))
