-- What stays true in the loop of `searches::openings_of`.
use Rattle.std.proofs.Common.{◌≡◌, ◌-◌, ◌^◌, min, sum_by, take}
use Rattle.fts_index.proofs.searches.openings_of.Given as goal

abbrev pub invariant-loop-part : goal.invariant-loop-part
invariant-loop-part l = l.openings ≡ min (2 ^ 64 - 1) (sum_by (λ part. part.openings) (take l.part-index l.parts))
