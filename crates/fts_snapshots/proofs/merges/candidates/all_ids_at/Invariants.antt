-- The invariant of the loop of `merges::candidates::all_ids_at`.
use Rattle.std.proofs.Common.{◌≡◌, map, take}
use Rattle.fts_snapshots.specs.Infos.{id_at}
use Rattle.fts_snapshots.proofs.merges.candidates.all_ids_at.Given as goal

abbrev pub invariant-loop-list : goal.invariant-loop-list
invariant-loop-list l = map (λ ids. ids.items) l.all.items ≡ map (λ list. map (id_at l.entries) list.items) (take l.list-index l.lists)
