-- What several rising lists have in common, together, or apart.
use Rattle.std.specs.Prelude.{◌≡◌, ℕ, Bool, true, false, ◌<◌, Option, Some, None, ◌==◌, List, [], ◌∷◌, not, nat_lt}
use Rattle.std.specs.Prelude.{if◌then◌else◌}
use Rattle.std.specs.List.{filter, list_all, list_any}

-- whether a list has the document
abbrev pub has : List ℕ → ℕ → Bool
has documents d = list_any (λ x. x == d) documents

-- whether each of the lists has the document
abbrev pub in_all : List (List ℕ) → ℕ → Bool
in_all lists d = list_all (λ documents. has documents d) lists

-- the members that each of the other lists has too
abbrev pub common : List ℕ → List (List ℕ) → List ℕ
common documents others = filter (in_all others) documents

-- the first member, if there is one, passes
abbrev pub FirstPasses : (ℕ → Bool) → List ℕ → Type 0
FirstPasses test [] = Unit {0}
FirstPasses test (d ∷ documents) = test d ≡ true

-- whether one of the lists has the document
abbrev pub in_some : List (List ℕ) → ℕ → Bool
in_some lists d = list_any (λ documents. has documents d) lists

-- a rising list with one document more
abbrev pub with_one : ℕ → List ℕ → List ℕ
with_one d [] = d ∷ []
with_one d (x ∷ xs) = if nat_lt d x then d ∷ (x ∷ xs) else (if d == x then x ∷ xs else x ∷ with_one d xs)

-- a rising list with all documents of another
abbrev pub with_all : List ℕ → List ℕ → List ℕ
with_all [] ys = ys
with_all (x ∷ xs) ys = with_one x (with_all xs ys)

-- the members of all lists, rising
abbrev pub union : List (List ℕ) → List ℕ
union [] = []
union (xs ∷ lists) = with_all xs (union lists)

-- whether a list doesn't have the document
abbrev pub lacks : List ℕ → ℕ → Bool
lacks documents d = not (has documents d)

-- the members that another list doesn't have
abbrev pub without : List ℕ → List ℕ → List ℕ
without kept dropped = filter (lacks dropped) kept

-- the lesser of two documents
abbrev pub lesser_of : Option ℕ → ℕ → Option ℕ
lesser_of None b = Some b
lesser_of (Some a) b = if nat_lt a b then Some a else Some b

-- the first document of all lists, if there is one
abbrev pub IsLeast : Option ℕ → List (List ℕ) → Type 0
IsLeast None lists = (d : ℕ) → in_some lists d ≡ false
IsLeast (Some first) lists = (in_some lists first ≡ true) × ((d : ℕ) → d < first → in_some lists d ≡ false)
