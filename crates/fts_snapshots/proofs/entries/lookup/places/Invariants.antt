-- The invariant of the loop of `entries::lookup::places`.
use Rattle.std.proofs.Common.{◌≡◌, map, take}
use Rattle.fts_snapshots.specs.Lookups.{place_in}
use Rattle.fts_snapshots.proofs.entries.lookup.places.Given as goal

abbrev pub invariant-loop-id : goal.invariant-loop-id
invariant-loop-id l = l.places.items ≡ map (place_in l.lookup) (take l.id-index l.ids)
