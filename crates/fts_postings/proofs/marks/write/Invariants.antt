-- What is written and what is still marked are all of it.
use Rattle.std.proofs.Common.{◌≡◌, ℕ, ◌+◌, ◌^◌, ◌<◌, ◌++◌, length, take}
use Rattle.std.specs.Int.{bit_at}
use Rattle.fts_postings.specs.Windows.{marked}
use Rattle.fts_postings.proofs.marks.write.Given as goal

abbrev pub invariant-loop-marks : goal.invariant-loop-marks
invariant-loop-marks l = record {
  few : (k : ℕ) → bit_at l.marks k ≡ 1 → l.from + k < 2 ^ 32;
  size : l.count + length (marked l.from (l.from + 63) l.marks) ≡ l.fn.count + length (marked l.from (l.from + 63) l.fn.marks);
  front : take l.count l.out ++ marked l.from (l.from + 63) l.marks ≡ take l.fn.count l.fn.out ++ marked l.from (l.from + 63) l.fn.marks;
}

abbrev pub decreases-loop-marks : goal.decreases-loop-marks
decreases-loop-marks l = l.marks
