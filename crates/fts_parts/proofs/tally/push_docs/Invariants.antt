use Rattle.std.proofs.Common.{◌≡◌, ◌≤◌, ◌+◌, ◌++◌, drop, length, take, vec_capacity, vec_len}
use Rattle.fts_parts.specs.Tallies.{present_at}
use Rattle.fts_parts.proofs.tally.push_docs.Given as goal

abbrev pub invariant-loop-doc : goal.invariant-loop-doc
invariant-loop-doc l = record {
  pushed : l.numbers.items ≡ l.fn.numbers.items ++ present_at l.column (take l.doc-index l.docs);
  room : vec_len l.numbers + length (drop l.doc-index l.docs) ≤ vec_capacity l.numbers;
}
