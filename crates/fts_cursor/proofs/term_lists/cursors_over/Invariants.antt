-- A cursor for each list so far.
use Rattle.std.proofs.Common.{take}
use Rattle.std.specs.List.{AllZip}
use Rattle.fts_pack.specs.ListRef.{listed}
use Rattle.fts_cursor.specs.Leading.{IsOver}
use Rattle.fts_cursor.proofs.term_lists.cursors_over.Given as goal

abbrev pub invariant-loop-list : goal.invariant-loop-list
invariant-loop-list l = AllZip (λ p documents. IsOver p (listed documents)) l.cursors.items (take l.list-index l.lists)
