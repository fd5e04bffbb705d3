use Rattle.std.proofs.Common.{◌≡◌, ◌<◌, ◌^◌, take, sum_by}
use Rattle.fts_parts.proofs.part.joined_count.Given as goal

abbrev pub invariant-loop-part : goal.invariant-loop-part
invariant-loop-part l = sum_by (λ part. part.answer.count) l.parts < 2 ^ 64 → l.count ≡ sum_by (λ part. part.answer.count) (take l.part-index l.parts)
