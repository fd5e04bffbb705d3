-- What stays true in the loop of `searches::parts_of`.
use Rattle.std.proofs.Common.{◌≡◌, Ok, length, map, take}
use Rattle.fts_index.proofs.searches.parts_of.Given as goal

abbrev pub invariant-loop-answer : goal.invariant-loop-answer
invariant-loop-answer l = take (length l.yielded) l.fn.answers.items ≡ map (λ part. Ok part) l.parts.items
