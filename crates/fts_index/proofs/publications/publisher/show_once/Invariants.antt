use Rattle.std.proofs.Common.{◌≡◌}
use Rattle.fts_index.proofs.publications.publisher.show_once.Given as goal

abbrev pub invariant-loop : goal.invariant-loop
invariant-loop g l =
    (goal.iterator-loop g).can_next l.iterator' × (goal.iterator-loop g).is_finite l.iterator' × (l.desk.desk.shown.value.seen.of ≡ l.front.seen.of)
