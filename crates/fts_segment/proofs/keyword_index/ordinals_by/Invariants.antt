use Rattle.std.proofs.Common.{◌≡◌, length, map}
use Rattle.fts_segment.specs.Between.{AreKeyed, NumberColumn}
use Rattle.fts_segment.proofs.OrdinalsLemmas.{below}
use Rattle.fts_segment.proofs.keyword_index.ordinals_by.Given as goal

abbrev pub invariant-loop-ordinal : goal.invariant-loop-ordinal
invariant-loop-ordinal l = (column : NumberColumn) → length column ≡ l.docs → AreKeyed column l.lists (λ k. k) →
    l.ordinals.items ≡ map (below l.ordinal) column
