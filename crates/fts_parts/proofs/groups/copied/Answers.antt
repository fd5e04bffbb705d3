use Rattle.std.proofs.Common.{◌<◌, ℕ, ◌++◌, ◌∷◌, [], length, get_or, sym, ap, ◌∙◌, arith}
use Rattle.std.proofs.lemmas.List.{take_all, take_more}
use Rattle.fts_model.specs.declared.value.GroupValue.{GroupValue}
use Rattle.fts_parts.proofs.groups.copied.Goals as goal

pub loop-group-preserved : goal.loop-group-preserved
loop-group-preserved c =
    let groups = c.args.groups.now in
    let i = c.loop-group.group-index in
    let items = c.loop-group.list.items in
    let group = c.group-item.result in
    let within : i < length groups = omega arith in
    c.in_ok-push.ensures.items
    ∙ ap (λ (v : GroupValue). items ++ (v, c.count.result) ∷ []) (c.in_ok-copied.ensures ∙ c.value.ensures)
    ∙ ap (λ (n : ℕ). items ++ (group.0, n) ∷ []) c.count.ensures
    ∙ ap (λ (g : GroupValue × ℕ). items ++ g ∷ []) c.group-item.is
    ∙ ap (λ gs. gs ++ get_or groups i group ∷ []) c.loop-group.invariant
    ∙ sym (take_more groups i group within)

pub returns : goal.returns
returns c = c.loop-group.invariant ∙ take_all c.loop-group.group-index c.args.groups.now c.loop-group-test.false
