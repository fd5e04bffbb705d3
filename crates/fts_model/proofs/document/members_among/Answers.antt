use Rattle.std.proofs.Common.{◌+◌, drop, sym, ap, ◌∙◌, arith}
use Rattle.std.proofs.lemmas.List.{drop_all}
use Rattle.serde_json.specs.View.{members_view}
use Rattle.fts_model.specs.Documents.{with_value, with_values}
use Rattle.fts_model.specs.Restricted.{value_among, values_among}
use Rattle.fts_model.proofs.DocumentsZips.{with_values-next_among}
use Rattle.fts_model.proofs.document.members_among.Goals as goal

pub loop-number-preserved : goal.loop-number-preserved
loop-number-preserved c =
    let names = c.args.names.now in
    let fields = c.args.fields.now in
    let vs = c.args.values.now in
    let i = c.loop-number.number in
    let ms = members_view c.loop-number.members.entries in
    let field = c.index-fields-number.result in
    ap (λ made. with_values made (drop (i + 1) fields) (values_among names (drop (i + 1) fields) (drop (i + 1) vs)))
    (c.in_ok-put_among.ensures ∙ ap (λ v. with_value ms field (value_among names field v)) c.get.ensures)
    ∙ sym (with_values-next_among names ms fields vs i field c.loop-number-test.true c.index-fields-number.is) ∙ c.loop-number.invariant

pub returns : goal.returns
returns c =
    let i = c.loop-number.number in
    sym (ap (λ fs. with_values (members_view c.loop-number.members.entries) fs (values_among c.args.names.now fs (drop i c.args.values.now)))
    (drop_all i c.args.fields.now (omega arith))) ∙ c.loop-number.invariant
