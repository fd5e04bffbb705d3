use Rattle.std.proofs.Common.{◌≡◌, length, take, sum_by}
use Rattle.fts_parts.specs.Internals.Joins.{hits_in}
use Rattle.fts_parts.proofs.top.room_for_hits.Given as goal

abbrev pub invariant-loop-part : goal.invariant-loop-part
invariant-loop-part l = l.count ≡ sum_by (λ part. length (hits_in part)) (take l.part-index l.parts)
