-- Those counted so far and those that remain are all, and each block that was reached was opened.
use Rattle.std.proofs.Common.{◌≡◌, ◌+◌, ◌-◌, ◌^◌, ◌≤◌, length, min}
use Rattle.fts_postings.specs.Posting.{Walks, remaining_of}
use Rattle.fts_postings.proofs.posting.PostingCursor.count.Given as goal

abbrev pub invariant-loop-self : goal.invariant-loop-self
invariant-loop-self g l = record {
  sum : min (2 ^ 64 - 1) (l.count + length (remaining_of l.self)) ≡ min (2 ^ 64 - 1) (length (remaining_of l.initial.self));
  fits : l.count ≤ 2 ^ 64 - 1;
  walks : Walks l.initial.self l.self;
}

abbrev pub decreases-loop-self : goal.decreases-loop-self
decreases-loop-self g l = length (remaining_of l.self)
