use Rattle.std.proofs.Common.{◌≡◌, ◌≤◌, ◌+◌, ◌++◌, ◌/◌, All, List, Some, ℕ, length, ap, ap₂, sym, subst, ◌∙◌, arith}
use Rattle.std.specs.List.{AllByRecursion}
use Rattle.std.specs.List.Sorted.{IsStrictlyIncreasing}
use Rattle.std.proofs.lemmas.List.{take-append-drop}
use Rattle.std.proofs.lemmas.List.Elements.{All-drop, All-take}
use Rattle.fts_model.specs.declared.operation.Stamped.{Stamped}
use Rattle.fts_model.specs.Documents.{DocumentValue}
use Rattle.fts_model.specs.Limits.{most_merged}
use Rattle.fts_model.specs.Operations.{kind_at}
use Rattle.fts_segment.specs.FieldIndexes.{AreTerms}
use Rattle.fts_segment.specs.Occurrences.{values_in}
use Rattle.fts_segment.specs.Parts.{TermStreamValue, IsJoined, IsSound, joined}
use Rattle.fts_segment.specs.Postings.{documents}
use Rattle.fts_segment.specs.Sources.{SourceValue, contents, live_count}
use Rattle.fts_segment.proofs.SourceLemmas.{contents-append, length-contents, live_count-append, sound-parts, parts-rise, terms-joined}
use Rattle.fts_segment.proofs.dictionary_merge.+merge_dictionaries.Goals as goal
use Rattle.fts_segment.proofs.dictionary_merge.+merge_dictionaries.Goals.{After-split_at}

pub merge_terms-requires-clause-sound : goal.merge_terms-requires-clause-sound
merge_terms-requires-clause-sound t c =
    let P : List TermStreamValue → Type 0 = AllByRecursion IsSound in
    subst P (sym c.deref_mut.ensures.value) (sound-parts c.args.kind c.args.field 0 c.args.sources.now c.in_ok-parts.parts.items c.in_ok-parts.ensures.are)

pub merge_terms-requires-clause-rise : goal.merge_terms-requires-clause-rise
merge_terms-requires-clause-rise t c =
    let P : List TermStreamValue → Type 0 = λ ps. (q : List ℕ) → IsStrictlyIncreasing (documents (joined ps q)) in
    subst P (sym c.deref_mut.ensures.value) (parts-rise c.args.kind c.args.field c.args.sources.now c.in_ok-parts.parts.items c.in_ok-parts.ensures.bits
    c.in_ok-parts.ensures.are)

pub returns-then-sources-le-MOST_AT_ONCE : goal.returns-then-sources-le-MOST_AT_ONCE
returns-then-sources-le-MOST_AT_ONCE t c =
    let d = c.in_ok-dictionary.dictionary in
    let P : List TermStreamValue → Type 0 = λ ps. IsJoined ps d.names d.lists d.positions in
    terms-joined c.args.kind c.args.field c.args.sources.now c.in_ok-parts.parts.items d c.requires.terms c.in_ok-parts.ensures.bits c.in_ok-parts.ensures.are
    c.in_ok-parts.ensures.few
    (subst P c.deref_mut.ensures.value c.in_ok-dictionary.ensures)

-- the two parts are all sources
whole_of : (t : _) (c : After-split_at t) → c.split_at.result.0.now ++ c.split_at.result.1.now ≡ c.args.sources.now
whole_of t c = ap₂ (λ a b. a ++ b) c.split_at.ensures.front c.split_at.ensures.back ∙ take-append-drop (length c.args.sources.now / 2) c.args.sources.now

few_of : (t : _) (c : After-split_at t) → live_count c.split_at.result.0.now + live_count c.split_at.result.1.now ≤ most_merged
few_of t c =
    omega (arith, c.requires.few, live_count-append c.split_at.result.0.now c.split_at.result.1.now, ap live_count (whole_of t c))

pub merge_dictionaries-requires : goal.merge_dictionaries-requires
merge_dictionaries-requires t c =
    let ss = c.args.sources.now in
    let Kind : SourceValue → Type 0 = λ s. kind_at s.segment.schema c.args.field ≡ Some c.args.kind in (
      omega (arith, c.split_at.ensures.front_len, c.if-sources-le-MOST_AT_ONCE.false),
      (
        subst (All Kind) (sym c.split_at.ensures.front) (All-take Kind (length ss / 2) ss c.requires.kinds),
        (c.requires.terms, omega (arith, few_of t (goal.at.merge_dictionaries-requires t c).After-split_at)),
      ),
    )

pub merge_dictionaries-requires-2 : goal.merge_dictionaries-requires-2
merge_dictionaries-requires-2 t c =
    let ss = c.args.sources.now in
    let Kind : SourceValue → Type 0 = λ s. kind_at s.segment.schema c.args.field ≡ Some c.args.kind in (
      omega (arith, c.split_at.ensures.back_len, c.if-sources-le-MOST_AT_ONCE.false),
      (
        subst (All Kind) (sym c.split_at.ensures.back) (All-drop Kind (length ss / 2) ss c.requires.kinds),
        (c.requires.terms, omega (arith, few_of t (goal.at.merge_dictionaries-requires-2 t c).After-split_at)),
      ),
    )

pub live_docs-requires : goal.live_docs-requires
live_docs-requires t c = omega (arith, few_of t (goal.at.live_docs-requires t c).After-split_at)

pub live_docs-requires-2 : goal.live_docs-requires-2
live_docs-requires-2 t c = omega (arith, few_of t (goal.at.live_docs-requires-2 t c).After-split_at)

pub merge_halves-requires-clause-room : goal.merge_halves-requires-clause-room
merge_halves-requires-clause-room t c =
    omega (
      arith,
      c.live_docs.ensures,
      c.live_docs-2.ensures,
      length-contents c.split_at.result.0.now,
      length-contents c.split_at.result.1.now,
      few_of t (goal.at.merge_halves-requires-clause-room t c).After-split_at,
    )

pub merge_halves-requires-clause-are : goal.merge_halves-requires-clause-are
merge_halves-requires-clause-are t c = (
  c.args.kind,
  c.args.field,
  contents c.split_at.result.0.now,
  contents c.split_at.result.1.now,
  record { count = sym c.live_docs.ensures; terms = c.in_ok-front_terms.ensures },
  record { count = sym c.live_docs-2.ensures; terms = c.in_ok-back_terms.ensures },
)

pub returns : goal.returns
returns t c =
    let front = c.split_at.result.0.now in
    let back = c.split_at.result.1.now in
    let d = c.in_ok-dictionary-2.dictionary in
    subst (λ (ds : List (Stamped DocumentValue)). AreTerms c.args.kind (values_in c.args.field ds) d)
    (sym (contents-append front back) ∙ ap contents (whole_of t (goal.at.returns t c).After-split_at))
    (c.in_ok-dictionary-2.ensures c.args.kind c.args.field (contents front) (contents back)
    (record { count = sym c.live_docs.ensures; terms = c.in_ok-front_terms.ensures })
    (record { count = sym c.live_docs-2.ensures; terms = c.in_ok-back_terms.ensures }))
