use Rattle.std.proofs.Common.{◌≡◌, ◌≤◌, ◌+◌, ◌++◌, drop, length, vec_len, vec_capacity}
use Rattle.fts_pack.specs.Documents.{gaps, Rises}
use Rattle.fts_pack.proofs.gaps.push_gaps.Given as goal

abbrev pub invariant-loop-number : goal.invariant-loop-number
invariant-loop-number l =
    (l.numbers.items ++ gaps l.next (drop l.number-index l.rising) ≡ l.fn.numbers.items ++ gaps l.fn.next l.rising) ×
    Rises l.next (drop l.number-index l.rising) ×
    (vec_len l.numbers + length (drop l.number-index l.rising) ≤ vec_capacity l.numbers)
