-- Sorted, each once, they are the documents of the lists.
use Rattle.std.proofs.Common.{◌≡◌, ℕ, List, All, Contains, nat_eq, sym, subst}
use Rattle.std.specs.List.{dedup}
use Rattle.std.specs.List.Sorted.{IsStrictlyIncreasing}
use Rattle.std.proofs.lemmas.List.Elements.{All-contains, All-contains_itself}
use Rattle.std.proofs.lemmas.List.Filters.{dedup_is, All-dedup}
use Rattle.std.proofs.lemmas.List.Kept.{Contains-dedup_nat}
use Rattle.std.proofs.lemmas.List.Sorted.{All-permutation, Contains-permutation}
use Rattle.std.proofs.lemmas.Map.Keys.{IsStrictlyIncreasing-dedup}
use Rattle.fts_cursor.proofs.list_union.ListedCursor.of_lists.Goals as goal

-- what is left after the duplicates are gone
left : (c : goal.After-dedup) → c.dedup.new.self.items ≡ dedup nat_eq c.sort_unstable.new.self.items
left c = dedup_is nat_eq c.sort_unstable.new.self.items c.dedup.new.self.items c.dedup.ensures.filtered

rises : (c : goal.After-dedup) → IsStrictlyIncreasing c.dedup.new.self.items
rises c = let P : List ℕ → Type 0 = IsStrictlyIncreasing in
    subst P (sym (left c)) (IsStrictlyIncreasing-dedup c.sort_unstable.new.self.items c.sort_unstable.ensures.sorted)

pub invariant_of-cursor : goal.invariant_of-cursor
invariant_of-cursor c = rises c

pub returns-clause-rises : goal.returns-clause-rises
returns-clause-rises c = rises c

pub returns-clause-sound : goal.returns-clause-sound
returns-clause-sound c d there =
    let joined = c.in_ok-documents.documents.items in
    let P : ℕ → Type 0 = Contains joined in
    let Q : List ℕ → Type 0 = All P in
    subst (λ xs. Contains xs d) c.in_ok-documents.ensures.documents
    (All-contains P c.dedup.new.self.items d (subst Q (sym (left c)) (All-dedup nat_eq P c.sort_unstable.new.self.items
    (All-permutation P joined c.sort_unstable.new.self.items c.sort_unstable.ensures.permutation (All-contains_itself joined)))) there)

pub returns-clause-whole : goal.returns-clause-whole
returns-clause-whole c d there =
    let P : List ℕ → Type 0 = λ xs. Contains xs d in
    subst P (sym (left c)) (Contains-dedup_nat c.sort_unstable.new.self.items d
    (Contains-permutation c.in_ok-documents.documents.items c.sort_unstable.new.self.items d c.sort_unstable.ensures.permutation
    (subst P (sym c.in_ok-documents.ensures.documents) there)))
