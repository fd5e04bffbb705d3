-- The invariant of the loop of `made_merges::end_due`.
use Rattle.std.proofs.Common.{◌≤◌, drop, map}
use Rattle.fts_snapshots.specs.Changes.{Merges}
use Rattle.fts_snapshots.proofs.ChangeLemmas.{Tried}
use Rattle.fts_snapshots.proofs.MadeLemmas.{AreLeft}
use Rattle.fts_snapshots.proofs.made_merges.end_due.Given as goal

abbrev pub invariant-loop-number : goal.invariant-loop-number
invariant-loop-number g l =
    let left = g.S.Mergeable.left in
    record {
      merges : Merges 0 (left l.initial.index) (left l.index);
      keeps : g.S.Mergeable.keeps l.initial.index l.index;
      tried : Tried (map (λ ids. ids.items) l.candidates) (map (λ ids. ids.items) (drop l.number l.candidates))
          (left l.initial.index) (left l.index) l.refused;
      left : AreLeft (map (λ ids. ids.items) (drop l.number l.candidates)) (left l.index) (drop l.number l.made);
      counted : l.refused ≤ l.number;
    }
