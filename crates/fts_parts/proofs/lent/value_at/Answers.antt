use Rattle.std.proofs.Common.{◌≡◌, Some, List, sym, ap, ◌∙◌, option_map}
use Rattle.std.specs.Prelude.{slice_get}
use Rattle.std.specs.Option.{option_map_or}
use Rattle.fts_model.specs.declared.schema.Field.{Field}
use Rattle.fts_model.specs.declared.schema.Kind.TheVariants as kinds
use Rattle.fts_model.specs.declared.value.GroupValue.TheVariants.{U64, Keyword}
use Rattle.fts_model.specs.Operations.{kind_at}
use Rattle.fts_segment.specs.Segments.{keywords}
use Rattle.fts_parts.specs.Collected.{value_in}
use Rattle.fts_parts.proofs.lent.value_at.Goals as goal

pub returns-in-Keyword : goal.returns-in-Keyword
returns-in-Keyword c =
    let segment = c.args.segment.now in
    let f = c.args.field in
    let known : kind_at segment.schema f ≡ Some kinds.Keyword =
    ap (λ (s : List Field). option_map (λ g. g.kind) (slice_get s f)) (sym c.schema.ensures) ∙ c.kind.ensures ∙ ap Some c.in-Keyword.is in
    ap Keyword c.keyword_at.ensures
    ∙ ap (λ o. option_map_or (λ kind. value_in kind (keywords segment f) c.args.number) o (U64 c.args.number)) (sym known)
