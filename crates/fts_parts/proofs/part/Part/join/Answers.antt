use Rattle.std.proofs.Common.{◌∙◌, ℕ, Option, Some, option_map, sym, ap, List, sum_by, arith}
use Rattle.fts_model.specs.declared.query.Top.{Top}
use Rattle.fts_model.specs.Answers.{answer_of, groups, top}
use Rattle.fts_parts.specs.Parts.{PartValue}
use Rattle.fts_parts.specs.Internals.Joins.{AreGroupsOf}
use Rattle.fts_parts.proofs.PartsLemmas.{count-joined, groups-joined, groups-told, length-joined, same_answer, top-joined}
use Rattle.fts_parts.proofs.part.Part.join.Goals.{in-None, in-None-top, in-Some+in-Ok, in-Some-top}
use Rattle.fts_parts.proofs.part.Part.join.Goals as goal

pub returns-clause-joined : goal.returns-clause-joined
returns-clause-joined c = λ hits are once few.
    let request = c.args.request.now in
    let parts = c.args.parts.items in
    let wanted = λ (o : Option Top). option_map (λ t. top t.k t.order t.by hits) o in
    let grouped = λ (o : Option ℕ). option_map (λ field. groups field hits) o in
    let sum = count-joined request hits parts are in
    let F = λ (ps : List PartValue). sum_by (λ part. part.answer.count) ps in
    let here = ap F c.deref-3.ensures.value ∙ sum in
    same_answer _ (answer_of request hits)
    (c.joined_count-count.ensures (omega (arith, here, few)) ∙ here)
    (elim c.match-request.branch [
      | in-None w ↦ rw w.groups-is (ap grouped (sym w.in-None.is))
      | in-Some+in-Ok w ↦
          let field = w.in-Some.field-0 in
          let told : AreGroupsOf field are.lists w.deref.result.now = rw w.deref.ensures.value (groups-told request field hits parts w.in-Some.is are) in
          let found = w.in-Ok.ensures field are.lists told (omega (arith, few, length-joined request hits parts are)) in
          rw w.groups-is (ap Some (found ∙ groups-joined request field hits parts are) ∙ ap grouped (sym w.in-Some.is))
    ])
    (elim c.match-request-2.branch [
      | in-None-top w ↦ rw w.top-is (ap wanted (sym w.in-None-top.is))
      | in-Some-top w ↦
          let tops = top-joined request w.in-Some-top.wanted hits parts w.in-Some-top.is are once in
          rw w.top-is (ap Some (w.joined_top.ensures tops.apart ∙ tops.first) ∙ ap wanted (sym w.in-Some-top.is))
    ])
