use Rattle.std.proofs.Common.{◌≡◌, true, false, List, ℕ, map, get_or, sym, ◌∙◌, arith}
use Rattle.std.proofs.lemmas.List.{get_or_default}
use Rattle.fts_merge.specs.declared.merge_plan.LevelSize.{LevelSize}
use Rattle.fts_merge.specs.Levels.{joins as joins_level, levels_of, large_enough}
use Rattle.fts_merge.proofs.LevelsLemmas.{level_joined, level_opened}
use Rattle.fts_merge.proofs.merge_plan.large_levels.Goals as goal
use Rattle.fts_merge.proofs.merge_plan.large_levels.Goals.{then-not-joins+in_ok-push_level, else-not-joins}

pub loop-place-preserved : goal.loop-place-preserved
loop-place-preserved c =
    let cs = c.args.counted.now in
    let place = c.loop-place.place in
    let start = c.loop-place.start in
    let first = c.loop-place.first in
    let next : LevelSize = get_or cs place (record { size = 0; index = 0 }) in
    let is : next ≡ get_or cs place next = get_or_default cs place _ next c.loop-place-test.true in
    let found : List (List ℕ) = map (λ v. v.items) c.loop-place.levels.items in
    let all = large_enough c.args.members (levels_of cs) in
    elim c.if-not-joins.branch [
      | then-not-joins+in_ok-push_level w ↦
          let apart : joins_level first next.size ≡ false = sym c.joins.ensures ∙ w.if-not-joins.true in
          rw (w.levels-is, w.start-is, w.first-is) (record {
            begun = omega arith;
            first = c.requires place _ c.loop-place-test.true;
            found = level_opened c.args.members found (map (λ v. v.items) w.push_level.new.levels.items) all cs start place first next c.loop-place-test.true is
                apart w.in_ok-push_level.ensures c.loop-place.invariant.found;
          })
      | else-not-joins w ↦
          let joined : joins_level first next.size ≡ true = sym c.joins.ensures ∙ w.if-not-joins.false in
          rw (w.levels-is, w.start-is, w.first-is) (record {
            begun = omega arith;
            first = c.loop-place.invariant.first;
            found = level_joined c.args.members found all cs start place first next c.loop-place.invariant.begun c.loop-place-test.true is joined
                c.loop-place.invariant.found;
          })
    ]
