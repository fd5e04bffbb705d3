use Rattle.std.proofs.Common.{◌≡◌, ◌∙◌, Some, sym, ap, refl, arith, length, take}
use Rattle.std.proofs.lemmas.Grind.{common_steps}
use Rattle.std.proofs.lemmas.List.{length-map, length-take-le}
use Rattle.std.proofs.lemmas.Option.{slice_get_read}
use Rattle.serde_json.specs.View.{members_view, view}
use Rattle.serde_json.specs.Find.{get, get_member}
use Rattle.fts_model.specs.Documents.{CanHave}
use Rattle.fts_model.proofs.DocumentsFields.{at_most_32, value_without_fault}
use Rattle.fts_model.proofs.DocumentsZips.{values_more}
use Rattle.fts_model.proofs.document.values_of.Goals as goal

pub value_of-requires : goal.value_of-requires
value_of-requires c =
    let ms = members_view c.args.members.now.entries in
    let name = c.field-item.result.name in
    let looked : Some (view c.in-Some.json.now) ≡ get c.as_str.result.now (view c.args.json.now) = c.in-Some.ensures in
    let found : get_member name ms ≡ Some (view c.in-Some.json.now) =
    sym (looked ∙ ap (λ k. get k (view c.args.json.now)) c.as_str.ensures ∙ ap (get name) c.requires.object) in
    value_without_fault c.args.fields.now ms c.requires.valid c.requires.no_fault c.loop-field.field-index c.field-item.result _
    (slice_get_read c.args.fields.now (length c.args.fields.now) c.loop-field.field-index c.field-item.result refl (omega arith) c.field-item.is) found

pub push-requires : goal.push-requires
push-requires c =
    let fields = c.args.fields.now in
    let count = ap length c.loop-field.invariant.values ∙ length-map (take c.loop-field.field-index fields) _ in
    omega (arith, count, length-take-le c.loop-field.field-index fields (omega arith), at_most_32 fields c.requires.valid)

pub loop-field-preserved : goal.loop-field-preserved
loop-field-preserved c =
    let can : CanHave c.field-item.result.kind c.match-get.value = grind (arith, common_steps) in
    record {
      values = grind (arith, common_steps);
      in_range = rw c.in_ok-push.ensures
          (values_more c.args.fields.now c.loop-field.field-index c.field-item.result c.loop-field.values c.match-get.value (omega arith) c.field-item.is
          c.loop-field.invariant.in_range can);
    }
