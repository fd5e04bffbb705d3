use Rattle.std.proofs.Common.{◌≡◌, take}
use Rattle.fts_parts.proofs.lent.Counted.lend.Given as goal

abbrev pub invariant-loop-count : goal.invariant-loop-count
invariant-loop-count l = l.list.items ≡ take l.count-index l.self
