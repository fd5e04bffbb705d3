use Rattle.std.proofs.Common.{◌≡◌, ◌≤◌, rules}
use Rattle.std.proofs.lemmas.List.Elements.{All-same}
use Rattle.std.proofs.lemmas.List.Sorted.{All-permutation}
use Rattle.fts_merge.specs.declared.merge_plan.LevelSize.{LevelSize}
use Rattle.fts_model.specs.Limits.{most_merged}
use Rattle.fts_merge.specs.Levels.{considered, greatest_first}
use Rattle.fts_merge.proofs.LevelsLemmas.{considered-within}
use Rattle.fts_merge.proofs.OrderLemmas.{IsPermutation-greatest_first}
use Rattle.fts_merge.proofs.merge_plan.together.Goals as goal

pub large_levels-requires : goal.large_levels-requires
large_levels-requires c =
    let cs = considered c.args.policy c.args.sizes.now in
    let is : c.deref.result.now ≡ greatest_first cs = search rules in
    All-same (λ (d : LevelSize). d.size ≤ most_merged) c.deref.result.now (greatest_first cs) is
    (All-permutation (λ (d : LevelSize). d.size ≤ most_merged) cs (greatest_first cs) (IsPermutation-greatest_first cs)
    (considered-within c.args.policy 0 c.args.sizes.now c.requires.floor c.requires.most))
