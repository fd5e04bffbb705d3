-- A dictionary and its lists, compared with occurrences.
use Rattle.std.specs.Prelude.{◌≡◌, ◌++◌, ℕ, nat_lt, Bool, true, List, [], ◌∷◌, flat_map, length, map, nat_eq}
use Rattle.std.specs.Prelude.{Contains, All}
use Rattle.std.specs.List.{dedup}
use Rattle.fts_segment.specs.declared.term_groups.DocPosition.{DocPosition}
use Rattle.fts_segment.specs.Occurrences.{OccurrenceValue}
use Rattle.fts_segment.specs.Sorted.{Ascends}
use Rattle.fts_segment.specs.Positions.{position_lists_with}
use Rattle.fts_segment.specs.Occurrences.{docs_with, docs_of}

-- the documents of places, without duplicates
abbrev pub docs_in : List DocPosition → List ℕ
docs_in places = dedup nat_eq (map (λ p. p.doc) places)

-- a term occurs
abbrev pub occurs : List OccurrenceValue → List ℕ → Bool
occurs os term = nat_lt 0 (length (docs_of term os))

-- the names are the terms that occur, in order, each has the list of its documents, and the positions in each of these
-- follow those of the names before it
pub record IsDictionaryOf (os : List OccurrenceValue) (names lists positions : List (List ℕ)) : Type 0 where
  pub ascends : Ascends names
  pub listed : lists ≡ map (λ q. docs_with q os) names
  pub positioned : positions ≡ flat_map (λ q. position_lists_with q os) names
  pub occur : All (λ q. occurs os q ≡ true) names
  pub whole : (q : List ℕ) → occurs os q ≡ true → Contains names q

-- one element, unless a list is empty
abbrev pub unless_none : {X Y : Type 0} → List Y → X → List X
unless_none [] x = []
unless_none (y ∷ ys) x = x ∷ []

-- the names that have a place
abbrev pub names_listed : List (List DocPosition) → List (List ℕ) → List (List ℕ)
names_listed [] names = []
names_listed (places ∷ groups) [] = []
names_listed (places ∷ groups) (name ∷ names) = unless_none places name ++ names_listed groups names

-- the images of the nonempty lists of places
abbrev pub listed_by : {X : Type 0} → (List DocPosition → X) → List (List DocPosition) → List X
listed_by f [] = []
listed_by f (places ∷ groups) = unless_none places (f places) ++ listed_by f groups
