-- What stays true in the loop of `searches::query_copy::copy_of_pattern`.
use Rattle.std.proofs.Common.{◌≡◌, take}
use Rattle.fts_index.proofs.searches.query_copy.copy_of_pattern.Given as goal

abbrev pub invariant-loop-offset : goal.invariant-loop-offset
invariant-loop-offset l = l.copy.items ≡ take l.offset-index l.pattern
