use Rattle.std.proofs.Common.{◌+◌, drop, sym, ap, ◌∙◌, arith}
use Rattle.std.proofs.lemmas.List.{drop_all}
use Rattle.serde_json.specs.View.{members_view}
use Rattle.fts_model.specs.Documents.{with_value, with_values}
use Rattle.fts_model.proofs.DocumentsZips.{with_values-next}
use Rattle.fts_model.proofs.document.members_of.Goals as goal

pub loop-number-preserved : goal.loop-number-preserved
loop-number-preserved c =
    let fields = c.args.fields.now in
    let vs = c.args.values.now in
    let i = c.loop-number.number in
    let ms = members_view c.loop-number.members.entries in
    let field = c.index-fields-number.result in
    ap (λ made. with_values made (drop (i + 1) fields) (drop (i + 1) vs)) (c.in_ok-put_value.ensures ∙ ap (with_value ms field) c.get.ensures)
    ∙ sym (with_values-next ms fields vs i field c.loop-number-test.true c.index-fields-number.is) ∙ c.loop-number.invariant

pub returns : goal.returns
returns c =
    let i = c.loop-number.number in
    sym (ap (λ fs. with_values (members_view c.loop-number.members.entries) fs (drop i c.args.values.now)) (drop_all i c.args.fields.now (omega arith)))
    ∙ c.loop-number.invariant
