use Rattle.std.proofs.Common.{◌≤◌, ◌+◌, length, take}
use Rattle.fts_cursor.specs.Standing.{Walked}
use Rattle.fts_collect.specs.Internals.Taken.{IsUnderWay}
use Rattle.fts_collect.proofs.collector.see_all.Given as goal

abbrev pub invariant-loop-len : goal.invariant-loop-len
invariant-loop-len l = record {
  under_way : IsUnderWay l.segment l.request l.fn.cursor.remaining (take l.len l.docs) l.cursor.remaining l.seen;
  within : l.len ≤ 128;
  walked : Walked l.fn.cursor l.cursor;
}

abbrev pub decreases-loop-len : goal.decreases-loop-len
decreases-loop-len l = l.len + length l.cursor.remaining
