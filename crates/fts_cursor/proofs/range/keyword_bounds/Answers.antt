-- The texts within bounds are those whose ordinals are between two.
use Rattle.std.proofs.Common.{◌≡◌, false, length, ap, sym, ◌∙◌}
use Rattle.std.specs.Option.{option_map_or}
use Rattle.std.proofs.lemmas.Bool.{and_parts}
use Rattle.fts_model.specs.declared.schema.Kind.TheVariants as kinds
use Rattle.fts_model.specs.Queries.{is_bound_of, is_number_field}
use Rattle.fts_model.specs.Schemas.{holds_numbers}
use Rattle.fts_segment.specs.Segments.{ordinals}
use Rattle.fts_sets.specs.Leaves.{has_within}
use Rattle.fts_postings.specs.Windows.{passing}
use Rattle.fts_cursor.proofs.KeywordRangeLemmas.{Ranked, keyword_hits, no_keyword}
use Rattle.fts_cursor.proofs.range.keyword_bounds.Goals as goal

pub returns-in_err-high : goal.returns-in_err-high
returns-in_err-high c =
    let other : is_number_field c.args.segment.now.schema c.args.field ≡ false = ap (λ o. option_map_or holds_numbers o false) c.requires.keyword in
    let bounds = and_parts (is_bound_of kinds.Keyword c.args.lower.now) (is_bound_of kinds.Keyword c.args.upper.now) c.requires.range in
    let ranked : Ranked c.args.segment.now c.args.field c.args.lower.now c.args.upper.now = record {
      keyword = c.requires.keyword;
      low = bounds.0;
      high = bounds.1;
      documents = c.docs.ensures.documents;
      fitting = c.docs.ensures.fit;
      small = rw (c.column-column.ensures.ordinals other) at c.most_of.ensures;
    } in
    rw c.from_residual.ensures (sym (no_keyword c.args.segment.now c.args.field c.args.lower.now c.args.upper.now c.last_ordinal.result ranked
    c.last_ordinal.ensures c.in_err-high.was))

pub returns : goal.returns
returns c =
    let segment = c.args.segment.now in
    let other : is_number_field segment.schema c.args.field ≡ false = ap (λ o. option_map_or holds_numbers o false) c.requires.keyword in
    let bounds = and_parts (is_bound_of kinds.Keyword c.args.lower.now) (is_bound_of kinds.Keyword c.args.upper.now) c.requires.range in
    let ranked : Ranked c.args.segment.now c.args.field c.args.lower.now c.args.upper.now = record {
      keyword = c.requires.keyword;
      low = bounds.0;
      high = bounds.1;
      documents = c.docs.ensures.documents;
      fitting = c.docs.ensures.fit;
      small = rw (c.column-column.ensures.ordinals other) at c.most_of.ensures;
    } in
    ap (λ low. passing (has_within low c.in_ok-high.high (ordinals segment c.args.field)) 0 (length segment.documents)) c.first_ordinal-low.ensures
    ∙ keyword_hits segment c.args.field c.args.lower.now c.args.upper.now c.last_ordinal.result ranked c.last_ordinal.ensures c.in_ok-high.high c.in_ok-high.was
