use Rattle.std.proofs.Common.{◌∙◌, ◌+◌, ℕ, sym, get_or, arith, rules}
use Rattle.std.specs.declared.cmp.Reverse.{Reverse}
use Rattle.std.proofs.lemmas.List.Sorted.{answers_always}
use Rattle.fts_merge.specs.declared.merge_plan.LevelSize.{LevelSize}
use Rattle.fts_merge.proofs.OrderLemmas.{comes_as_pairs, greatest_first-is}
use Rattle.fts_merge.proofs.merge_plan.sorted.Goals as goal

pub returns : goal.returns
returns c =
    let cs = c.sort_unstable_by_key.new.self.items in
    let key : LevelSize → Reverse ℕ × ℕ = λ d. (record { 0 = d.size }, d.index) in
    let rises = c.sort_unstable_by_key.ensures.sorted key (answers_always _ _ _ (λ f a r g h. search rules)) in
    greatest_first-is c.args.counted.items cs c.sort_unstable_by_key.ensures.permutation
    (λ k d within. sym (comes_as_pairs (get_or cs (k + 1) d).size (get_or cs (k + 1) d).index (get_or cs k d).size (get_or cs k d).index)
    ∙ rises k d (omega arith) within)
