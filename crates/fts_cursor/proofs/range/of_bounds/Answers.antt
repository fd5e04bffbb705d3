-- The column of either kind of field keeps its values.
use Rattle.std.proofs.Common.{◌≡◌, ℕ, List, Option, length, ap, ap₂, subst, sym, ◌∙◌}
use Rattle.std.proofs.lemmas.Result.{IfOk-weaker}
use Rattle.fts_pack.specs.ListRange.{lists_in_range}
use Rattle.fts_segment.specs.Between.{AreBetween, count_between}
use Rattle.fts_postings.specs.Windows.{passing}
use Rattle.fts_cursor.specs.Ranges.{values_of}
use Rattle.fts_sets.specs.Leaves.{has_within}
use Rattle.fts_cursor.proofs.BoundsLemmas.{by_kind, length-values}
use Rattle.fts_cursor.proofs.range.of_bounds.Goals as goal

pub between-requires-clause-size : goal.between-requires-clause-size
between-requires-clause-size c =
    let segment = c.args.segment.now in
    let same : c.column-column.result.now ≡ values_of segment c.args.field =
    by_kind (λ xs. c.column-column.result.now ≡ xs) segment c.args.field c.column-column.ensures.numbers c.column-column.ensures.ordinals in
    ap length same ∙ length-values segment c.args.field c.requires ∙ sym c.docs.ensures.len

pub between-requires-clause-lists : goal.between-requires-clause-lists
between-requires-clause-lists c =
    let segment = c.args.segment.now in
    let same : c.column-column.result.now ≡ values_of segment c.args.field =
    by_kind (λ xs. c.column-column.result.now ≡ xs) segment c.args.field c.column-column.ensures.numbers c.column-column.ensures.ordinals in
    let P : List (Option ℕ) → Type 0 = λ xs. AreBetween xs c.args.low c.args.high (lists_in_range c.lists_between-lists.result) in
    subst P (sym same) (by_kind P segment c.args.field c.lists_between-lists.ensures.numbers c.lists_between-lists.ensures.ordinals)

pub between-requires-clause-documents : goal.between-requires-clause-documents
between-requires-clause-documents c =
    let segment = c.args.segment.now in
    let same : c.column-column.result.now ≡ values_of segment c.args.field =
    by_kind (λ xs. c.column-column.result.now ≡ xs) segment c.args.field c.column-column.ensures.numbers c.column-column.ensures.ordinals in
    let P : List (Option ℕ) → Type 0 = λ xs. c.documents_between-documents.result ≡ count_between c.args.low c.args.high xs in
    subst P (sym same) (by_kind P segment c.args.field c.documents_between-documents.ensures.numbers c.documents_between-documents.ensures.ordinals)

pub returns-clause-remaining : goal.returns-clause-remaining
returns-clause-remaining c =
    let segment = c.args.segment.now in
    let same : c.column-column.result.now ≡ values_of segment c.args.field =
    by_kind (λ xs. c.column-column.result.now ≡ xs) segment c.args.field c.column-column.ensures.numbers c.column-column.ensures.ordinals in
    IfOk-weaker c.between.result _ _ (λ t is. is ∙ ap₂ (λ xs n. passing (has_within c.args.low c.args.high xs) 0 n) same c.docs.ensures.len)
    c.between.ensures.remaining
