-- The invariant of the loop of `merges::candidates::ids_at`.
use Rattle.std.proofs.Common.{◌≡◌, map, take}
use Rattle.fts_snapshots.specs.Infos.{id_at}
use Rattle.fts_snapshots.proofs.merges.candidates.ids_at.Given as goal

abbrev pub invariant-loop-index : goal.invariant-loop-index
invariant-loop-index l = l.ids.items ≡ map (id_at l.entries) (take l.index-index l.indexes)
