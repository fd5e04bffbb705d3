use Rattle.std.proofs.Common.{◌≤◌, ◌+◌, ◌++◌, length, vec_len, vec_capacity}
use Rattle.std.specs.List.Sorted.{IsPermutation}
use Rattle.fts_parts.specs.Internals.Joins.{all_hits}
use Rattle.fts_parts.proofs.top.joined_top.Given as goal

abbrev pub invariant-loop-part : goal.invariant-loop-part
invariant-loop-part l = record {
  moved : IsPermutation (all_hits l.fn.parts.items) (all_hits l.parts.items ++ l.list.items);
  room : length (all_hits l.parts.items) + vec_len l.list ≤ vec_capacity l.list;
}

abbrev pub decreases-loop-part : goal.decreases-loop-part
decreases-loop-part l = vec_len l.parts
