use Rattle.std.proofs.Common.{◌≡◌, ◌∙◌, ℕ, List, [], IfOk, fold, refl, ap, subst, rules}
use Rattle.std.specs.Ordering.{is_lt}
use Rattle.std.proofs.lemmas.List.Sorted.{ranks_by}
use Rattle.std.proofs.lemmas.Fn.{always_returns_same}
use Rattle.fts_model.specs.declared.value.GroupValue.{GroupValue}
use Rattle.fts_model.specs.Answers.{count_one, group_cmp}
use Rattle.fts_scan.specs.Scans.{is_one_group}
use Rattle.fts_scan.proofs.AnswersOrder.{group_order}
use Rattle.fts_scan.proofs.SortedCounts.{counts-sorted}
use Rattle.fts_scan.proofs.answers.groups.Goals as goal

pub returns : goal.returns
returns c =
    let sorted = c.sort_unstable_by.new.self.items in
    let up = c.sort_unstable_by.ensures.sorted (λ a b. is_lt (group_cmp a b)) (ranks_by group_order.total (λ (v : GroupValue). v))
    (always_returns_same _ _ _ (λ a r g k. search rules)) in
    let P : List (GroupValue × ℕ) → Type 0 = λ counts. IfOk c.counts_of_sorted.result (λ found. found.items ≡ counts) in
    subst P
    (counts-sorted group_order is_one_group (λ x y. refl) c.in_ok-values.values.items sorted c.sort_unstable_by.ensures.permutation up
    ∙ ap (fold (count_one group_cmp) []) c.in_ok-values.ensures)
    c.counts_of_sorted.ensures
