use Rattle.std.proofs.Common.{◌<◌, List, ◌++◌, ◌∷◌, [], length, take, sym, ap, ◌∙◌, arith}
use Rattle.std.specs.Option.{option_to_list}
use Rattle.std.proofs.lemmas.List.{take_more}
use Rattle.fts_model.specs.declared.value.GroupValue.{GroupValue}
use Rattle.fts_model.specs.declared.operation.Stamped.{Stamped}
use Rattle.fts_model.specs.Documents.{DocumentValue}
use Rattle.fts_model.specs.Answers.{group_in, groups_in}
use Rattle.fts_scan.proofs.AnswersSteps.{groups_in-more}
use Rattle.fts_scan.proofs.answers.values_in.Goals as goal

pub loop-hit-preserved : goal.loop-hit-preserved
loop-hit-preserved c =
    let hits = c.args.hits.now in
    let i = c.loop-hit.hit-index in
    let hit = c.hit-item.result in
    let within : i < length hits = omega arith in
    let behind = λ (x : Stamped DocumentValue). groups_in c.args.field (take i hits ++ x ∷ []) in
    let pushed = λ (values : List GroupValue). values ++ option_to_list (group_in hit.value c.args.field) in
    c.in_ok-push_value.ensures
    ∙ ap pushed c.loop-hit.invariant
    ∙ sym (groups_in-more c.args.field (take i hits) hit)
    ∙ ap behind c.hit-item.is
    ∙ ap (groups_in c.args.field) (sym (take_more hits i hit within))
