-- The rest of the proof of `mergeable::merge_due`.
use Rattle.std.proofs.Common.{rules, ◌≤◌, ◌<◌, [], ◌∷◌, Global, Vec, ℕ, length, sym, subst, arith}
use Rattle.fts_snapshots.specs.Candidates.{MergesAllBut}
use Rattle.fts_snapshots.proofs.ChangeLemmas.{merges_then, tried_all, tried_last, tried_more}
use Rattle.fts_snapshots.proofs.mergeable.merge_due.Goals as goal

pub returns-then-len-lt2-clause-due : goal.returns-then-len-lt2-clause-due
returns-then-len-lt2-clause-due g c =
    let left = g.S.Mergeable.left in
    let few : length c.ids-item.result.items < 2 = omega (arith, c.if-len-lt2.true, c.len.ensures) in
    tried_last (λ (ids : Vec ℕ Global). ids.items) c.args.candidates.now c.loop-ids.ids-index c.ids-item.result (left c.args.index.now)
    (left c.loop-ids.index) (left c.try_candidate-refused.new.index) c.loop-ids.refused c.try_candidate-refused.result c.loop-ids-test.true c.ids-item.is few
    (subst (λ ids. MergesAllBut c.try_candidate-refused.result (ids ∷ []) (left c.loop-ids.index) (left c.try_candidate-refused.new.index)) c.deref.ensures.value
    c.try_candidate-refused.ensures.merged) c.loop-ids.invariant.tried

pub loop-ids-preserved : goal.loop-ids-preserved
loop-ids-preserved g c =
    let left = g.S.Mergeable.left in
    let ids = c.ids-item.result.items in
    let several : 2 ≤ length ids = omega (arith, c.if-len-lt2.false, c.len.ensures) in
    let enough : 2 ≤ length c.deref.result.now = subst (λ ns. 2 ≤ length ns) (sym c.deref.ensures.value) several in
    let keeps : g.S.Mergeable.keeps c.args.index.now c.try_candidate-refused.new.index = search rules in
    record {
      merges = merges_then 0 (left c.args.index.now) (left c.loop-ids.index) (left c.try_candidate-refused.new.index) c.loop-ids.invariant.merges
          (c.try_candidate-refused.ensures.several enough);
      keeps = keeps;
      tried = tried_more (λ (ids : Vec ℕ Global). ids.items) c.args.candidates.now c.loop-ids.ids-index c.ids-item.result (left c.args.index.now)
          (left c.loop-ids.index) (left c.try_candidate-refused.new.index) c.loop-ids.refused c.try_candidate-refused.result c.loop-ids-test.true c.ids-item.is several
          (subst (λ ids. MergesAllBut c.try_candidate-refused.result (ids ∷ []) (left c.loop-ids.index) (left c.try_candidate-refused.new.index))
          c.deref.ensures.value c.try_candidate-refused.ensures.merged) c.loop-ids.invariant.tried;
      counted = omega (arith, c.loop-ids.invariant.counted, c.try_candidate-refused.ensures.few);
    }

pub returns-clause-due : goal.returns-clause-due
returns-clause-due g c =
    let left = g.S.Mergeable.left in
    let past : length c.args.candidates.now ≤ c.loop-ids.ids-index = omega (arith, c.loop-ids-test.false) in
    tried_all (λ (ids : Vec ℕ Global). ids.items) c.args.candidates.now c.loop-ids.ids-index (left c.args.index.now) (left c.loop-ids.index)
    c.loop-ids.refused past c.loop-ids.invariant.tried
