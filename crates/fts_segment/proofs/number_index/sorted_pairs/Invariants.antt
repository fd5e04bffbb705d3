use Rattle.std.proofs.Common.{◌≡◌, ◌<◌, ℕ, All, AllPairs, take}
use Rattle.fts_segment.specs.Segments.{numbers_where}
use Rattle.fts_segment.specs.Numbers.{is_number}
use Rattle.fts_segment.specs.NumberPairs.{docs_of_number}
use Rattle.fts_segment.proofs.number_index.sorted_pairs.Given as goal

abbrev pub invariant-loop-doc : goal.invariant-loop-doc
invariant-loop-doc l = ((x : ℕ) → docs_of_number x l.pairs.items ≡ numbers_where (is_number x) 0 (take l.doc l.values))
    × AllPairs (λ (a b : ℕ × ℕ). a.1 < b.1) l.pairs.items × All (λ (p : ℕ × ℕ). p.1 < l.doc) l.pairs.items
