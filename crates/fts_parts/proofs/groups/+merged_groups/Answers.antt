use Rattle.std.proofs.Common.{◌≡◌, ◌∙◌, ◌/◌, ℕ, List, IfOk, sym, ap, subst, arith, length, take, drop, fold}
use Rattle.fts_model.specs.declared.value.GroupValue.{GroupValue}
use Rattle.fts_model.specs.Answers.{groups}
use Rattle.fts_parts.specs.Parts.{PartValue, joined}
use Rattle.fts_parts.specs.Internals.Joins.{AreGroupsOf, GroupsRise, add_group}
use Rattle.fts_parts.proofs.GroupsLemmas.{only_one, groups-alone, groups-halves, few-halves, groups-rise, AreGroupsOf-take, AreGroupsOf-drop}
use Rattle.fts_parts.proofs.groups.+merged_groups.Goals as goal

pub returns-in-len1 : goal.returns-in-len1
returns-in-len1 t c = λ field lists are few.
    let one = only_one c.args.parts.now c.part-item.result c.part-item.is c.in-len1.len_at_least c.in-len1.len_below in
    let P : List PartValue → Type 0 = AreGroupsOf field lists in
    let Q : List (GroupValue × ℕ) → Type 0 = λ xs. IfOk c.groups_of.result (λ list. list.items ≡ xs) in
    subst Q (groups-alone field lists c.part-item.result (subst P one are)) c.groups_of.ensures

pub returns-in_ok-back-in_default : goal.returns-in_ok-back-in_default
returns-in_ok-back-in_default t c = λ field lists are few.
    let n = length c.args.parts.now / 2 in
    let parts = c.args.parts.now in
    let P : List PartValue → Type 0 = AreGroupsOf field (take n lists) in
    let R : List PartValue → Type 0 = AreGroupsOf field (drop n lists) in
    let halves = few-halves n lists in
    let front = c.in_ok-front-in_default.ensures field (take n lists) (subst P (sym c.split_at.ensures.front) (AreGroupsOf-take field n lists parts are))
    (omega (arith, halves, few)) in
    let back = c.in_ok-back-in_default.ensures field (drop n lists) (subst R (sym c.split_at.ensures.back) (AreGroupsOf-drop field n lists parts are))
    (omega (arith, halves, few)) in
    let first = c.deref.ensures.value ∙ front in
    let second = c.deref-in_default.ensures.value ∙ back in
    let S : List (GroupValue × ℕ) → Type 0 = GroupsRise in
    let Q : List (GroupValue × ℕ) → Type 0 = λ xs. IfOk c.merged.result (λ list. list.items ≡ xs) in
    subst Q
    (ap (λ xs. fold add_group xs c.deref-in_default.result.now) first ∙ ap (fold add_group (groups field (joined (take n lists)))) second ∙ groups-halves field
    n lists few)
    (c.merged.ensures (subst S (sym second) (groups-rise field (joined (drop n lists)))))
