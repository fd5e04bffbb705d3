use Rattle.std.proofs.Common.{◌≡◌, ◌∙◌, ℕ, List, IfOk, ap, subst}
use Rattle.std.specs.Prelude.{nat_eq}
use Rattle.fts_scan.specs.Scans.{counts_of_sorted}
use Rattle.fts_scan.proofs.Counts.{nat_order}
use Rattle.fts_scan.proofs.SortedCounts.{nat_eq-is_eq, counts-sorted}
use Rattle.fts_parts.specs.declared.tally.Tally.{Tally}
use Rattle.fts_parts.specs.Tallies.{IsTally, counts_of}
use Rattle.fts_parts.proofs.tally.Tally.into_counts.Goals as goal

pub returns-in-Numbers : goal.returns-in-Numbers
returns-in-Numbers c = λ numbers is few.
    let held = c.in-Numbers.numbers.items in
    let sorted = c.sort_unstable.new.self.items in
    let P : Tally → Type 0 = IsTally numbers in
    let same : held ≡ numbers = subst P c.in-Numbers.is is in
    let Q : List (ℕ × ℕ) → Type 0 = λ xs. IfOk c.counts_of_sorted.result (λ list. list.items ≡ xs) in
    subst Q
    (ap (counts_of_sorted nat_eq) c.deref-in-Numbers.ensures.value
    ∙ counts-sorted nat_order nat_eq nat_eq-is_eq held sorted c.sort_unstable.ensures.permutation c.sort_unstable.ensures.sorted
    ∙ ap (counts_of) same)
    c.counts_of_sorted.ensures
