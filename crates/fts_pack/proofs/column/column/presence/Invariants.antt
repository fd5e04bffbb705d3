use Rattle.std.proofs.Common.{◌≡◌, ◌-◌, ◌++◌, false, is_some, length, map, replicate, take}
use Rattle.fts_pack.proofs.column.column.presence.Given as goal

abbrev pub invariant-loop-doc : goal.invariant-loop-doc
invariant-loop-doc l =
    l.present ≡ map is_some (take l.doc l.values) ++ replicate (length l.values - l.doc) false
