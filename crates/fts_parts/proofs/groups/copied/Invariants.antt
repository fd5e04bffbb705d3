use Rattle.std.proofs.Common.{◌≡◌, take}
use Rattle.fts_parts.proofs.groups.copied.Given as goal

abbrev pub invariant-loop-group : goal.invariant-loop-group
invariant-loop-group l = l.list.items ≡ take l.group-index l.groups
