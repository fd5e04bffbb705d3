-- The rest of the proof of `made_merges::end_due`.
use Rattle.std.proofs.Common.{rules, ◌≤◌, ◌<◌, [], ◌∷◌, Global, Vec, ℕ, length, sym, subst, arith}
use Rattle.fts_snapshots.specs.Candidates.{MergesAllBut}
use Rattle.fts_snapshots.proofs.ChangeLemmas.{merges_then, tried_all, tried_last, tried_more}
use Rattle.fts_snapshots.proofs.MadeLemmas.{made_more}
use Rattle.fts_snapshots.proofs.made_merges.end_due.Goals as goal

pub returns-then-len-lt2-clause-due : goal.returns-then-len-lt2-clause-due
returns-then-len-lt2-clause-due g c =
    let left = g.S.Mergeable.left in
    let now = left c.loop-number.index in
    let next = left c.end_or_merge-refused.new.index in
    let few : length c.index-candidates-number.result.items < 2 = omega (arith, c.if-len-lt2.true, c.len.ensures) in
    tried_last (λ (ids : Vec ℕ Global). ids.items) c.args.candidates.now c.loop-number.number c.index-candidates-number.result (left c.args.index.now) now next
    c.loop-number.refused c.end_or_merge-refused.result c.loop-number-test.true c.index-candidates-number.is few
    (subst (λ ids. MergesAllBut c.end_or_merge-refused.result (ids ∷ []) now next) c.deref.ensures.value c.end_or_merge-refused.ensures.merged)
    c.loop-number.invariant.tried

pub loop-number-preserved : goal.loop-number-preserved
loop-number-preserved g c =
    let left = g.S.Mergeable.left in
    let old = left c.args.index.now in
    let now = left c.loop-number.index in
    let next = left c.end_or_merge-refused.new.index in
    let candidates = c.args.candidates.now in
    let k = c.loop-number.number in
    let one = c.index-candidates-number.result in
    let refused = c.end_or_merge-refused.result in
    let several : 2 ≤ length one.items = omega (arith, c.if-len-lt2.false, c.len.ensures) in
    let enough : 2 ≤ length c.deref.result.now = subst (λ ns. 2 ≤ length ns) (sym c.deref.ensures.value) several in
    let merged = subst (λ ids. MergesAllBut refused (ids ∷ []) now next) c.deref.ensures.value c.end_or_merge-refused.ensures.merged in
    let keeps : g.S.Mergeable.keeps c.args.index.now c.end_or_merge-refused.new.index = search rules in
    record {
      merges = merges_then 0 old now next c.loop-number.invariant.merges (c.end_or_merge-refused.ensures.several enough);
      keeps = keeps;
      tried = tried_more (λ (ids : Vec ℕ Global). ids.items) candidates k one old now next c.loop-number.refused refused c.loop-number-test.true
          c.index-candidates-number.is several merged c.loop-number.invariant.tried;
      left = made_more (λ (ids : Vec ℕ Global). ids.items) candidates k one c.args.made.now now next refused c.loop-number-test.true
          c.index-candidates-number.is several merged c.loop-number.invariant.left;
      counted = omega (arith, c.loop-number.invariant.counted, c.end_or_merge-refused.ensures.few);
    }

pub returns-clause-due : goal.returns-clause-due
returns-clause-due g c =
    let left = g.S.Mergeable.left in
    tried_all (λ (ids : Vec ℕ Global). ids.items) c.args.candidates.now c.loop-number.number (left c.args.index.now) (left c.loop-number.index)
    c.loop-number.refused c.loop-number-test.false c.loop-number.invariant.tried
