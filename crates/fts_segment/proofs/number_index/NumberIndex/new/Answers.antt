use Rattle.std.proofs.Common.{ℕ, List, Option, ap, sym, subst, ◌∙◌}
use Rattle.std.specs.List.Sorted.{IsStrictlyIncreasing}
use Rattle.fts_segment.specs.Numbers.{is_number, IsNumberIndex}
use Rattle.fts_segment.specs.NumberPairs.{docs_of_number}
use Rattle.fts_segment.proofs.HoldingLemmas.{numbers_rise}
use Rattle.fts_segment.proofs.NumberLemmas.{IsNumberIndex-grouped}
use Rattle.fts_segment.proofs.number_index.NumberIndex.new.Goals as goal

pub grouped-requires-clause-docs : goal.grouped-requires-clause-docs
grouped-requires-clause-docs c x =
    let P : List ℕ → Type 0 = IsStrictlyIncreasing in
    subst P (sym (ap (docs_of_number x) c.deref-2.ensures.value ∙ c.in_ok-pairs.ensures.docs x)) (numbers_rise (is_number x) 0 c.deref.result.now)

pub returns-clause-index : goal.returns-clause-index
returns-clause-index c =
    let P : List (Option ℕ) → Type 0 = λ vs. IsNumberIndex vs c.in_ok-numbers.numbers.items c.in_ok-numbers.lists in
    subst P (c.deref.ensures.value ∙ c.in_ok-values.ensures.numbers)
    (IsNumberIndex-grouped c.deref.result.now c.deref-2.result.now (λ x. ap (docs_of_number x) c.deref-2.ensures.value ∙ c.in_ok-pairs.ensures.docs x)
    c.in_ok-numbers.ensures)
