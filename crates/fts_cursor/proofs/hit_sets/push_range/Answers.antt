-- The documents within the bounds are the hits.
use Rattle.std.proofs.Common.{◌≡◌, ◌&&◌, true, false, None, length, ap, subst, sym, ◌∙◌, arith}
use Rattle.std.proofs.lemmas.List.{get_or_past}
use Rattle.fts_model.specs.QueryValues.{range}
use Rattle.std.specs.Option.{option_map_or}
use Rattle.std.proofs.lemmas.Bool.{and_parts}
use Rattle.fts_model.specs.Operations.{kind_at}
use Rattle.fts_model.specs.Queries.{is_bound_of, is_ordered_field, is_range_of}
use Rattle.fts_model.specs.Schemas.{is_ordered}
use Rattle.fts_pack.specs.column.Column.{is_within}
use Rattle.fts_postings.specs.Sets.{has}
use Rattle.fts_cursor.specs.Hits.{segment_hits}
use Rattle.fts_cursor.specs.Ranges.{values_of}
use Rattle.fts_sets.specs.Leaves.{has_within}
use Rattle.fts_cursor.specs.Tests.{HasMore}
use Rattle.fts_sets.specs.declared.leaf.Leaf.TheVariants.{Within}
use Rattle.fts_cursor.proofs.BoundsLemmas.{by_kind, length-values}
use Rattle.fts_cursor.proofs.RangeLemmas.{kind_of}
use Rattle.fts_cursor.proofs.TestsLemmas.{HasMore-one}
use Rattle.fts_sets.proofs.SetLemmas.{has-passing}
use Rattle.fts_cursor.proofs.hit_sets.push_range.Goals as goal

pub returns : goal.returns
returns c = λ _.
    let segment = c.args.segment.now in
    let field = c.args.field in
    let hits = segment_hits segment (range field c.args.lower.now c.args.upper.now) in
    let values = values_of segment field in
    let low = c.in-Some.low in
    let high = c.in-Some.high in
    let same : c.column-column.result.now ≡ values =
    by_kind (λ xs. c.column-column.result.now ≡ xs) segment field c.column-column.ensures.numbers c.column-column.ensures.ordinals in
    let kind = kind_of (kind_at segment.schema field) (is_range_of c.args.lower.now c.args.upper.now) c.requires in
    let front = and_parts (is_ordered kind.0 && is_bound_of kind.0 c.args.lower.now) (is_bound_of kind.0 c.args.upper.now) kind.2 in
    let ordered : is_ordered_field segment.schema field ≡ true = ap (λ o. option_map_or is_ordered o false) kind.1
    ∙ (and_parts (is_ordered kind.0) (is_bound_of kind.0 c.args.lower.now) front.0).0 in
    let bounds = rw c.in-Some.is at c.bounds_of.ensures in
    let long = length-values segment field ordered in
    subst (HasMore (has hits) c.args.leaves.now.items) (sym c.in_ok-push.ensures.items)
    (HasMore-one (has hits) c.args.leaves.now.items (Within c.column-column.result low high)
    (λ d. ap (λ xs. has_within low high xs d) same
    ∙ sym (has-passing (has_within low high values) (length segment.documents) d
    (λ past. ap (is_within low high) (get_or_past values d None (omega (arith, past, long)))))
    ∙ ap (λ xs. has xs d) bounds))
