-- The invariant of the loop of `mergeable::merge_due`.
use Rattle.std.proofs.Common.{◌≤◌, drop, map}
use Rattle.fts_snapshots.specs.Changes.{Merges}
use Rattle.fts_snapshots.proofs.ChangeLemmas.{Tried}
use Rattle.fts_snapshots.proofs.mergeable.merge_due.Given as goal

abbrev pub invariant-loop-ids : goal.invariant-loop-ids
invariant-loop-ids g l =
    let left = g.S.Mergeable.left in
    record {
      merges : Merges 0 (left l.initial.index) (left l.index);
      keeps : g.S.Mergeable.keeps l.initial.index l.index;
      tried : Tried (map (λ ids. ids.items) l.candidates) (map (λ ids. ids.items) (drop l.ids-index l.candidates))
          (left l.initial.index) (left l.index) l.refused;
      counted : l.refused ≤ l.ids-index;
    }
