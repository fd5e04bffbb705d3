use Rattle.std.proofs.Common.{◌<◌, List, ◌++◌, ◌∷◌, [], length, take, fold, sym, ap, ◌∙◌, arith}
use Rattle.std.specs.Option.{option_to_list}
use Rattle.std.proofs.lemmas.List.{take_more}
use Rattle.fts_model.specs.declared.answer.Hit.{Hit}
use Rattle.fts_model.specs.declared.operation.Stamped.{Stamped}
use Rattle.fts_model.specs.Documents.{DocumentValue}
use Rattle.fts_model.specs.Answers.{top, put_hit, hit_in}
use Rattle.fts_scan.proofs.AnswersSteps.{top-more}
use Rattle.fts_scan.proofs.answers.top.Goals as goal

pub loop-hit-preserved : goal.loop-hit-preserved
loop-hit-preserved c =
    let t = c.args.wanted in
    let hits = c.args.hits.now in
    let i = c.loop-hit.hit-index in
    let hit = c.hit-item.result in
    let within : i < length hits = omega arith in
    let behind = λ (x : Stamped DocumentValue). top t.k t.order t.by (take i hits ++ x ∷ []) in
    let taken = λ (list : List Hit). fold (λ hs h. take t.k (put_hit t.order hs h)) list (option_to_list (hit_in t.by hit)) in
    c.in_ok-take_hit.ensures
    ∙ ap taken c.loop-hit.invariant
    ∙ sym (top-more t.k t.order t.by (take i hits) hit)
    ∙ ap behind c.hit-item.is
    ∙ ap (top t.k t.order t.by) (sym (take_more hits i hit within))
