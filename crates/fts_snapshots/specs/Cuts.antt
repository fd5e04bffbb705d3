-- The division of a batch's adds among segments.
use Rattle.std.specs.Prelude.{ℕ, zero, suc, ◌+◌, ◌*◌, ◌/◌, ◌%◌, ◌≤◌, List, [], ◌∷◌, ◌++◌}
use Rattle.fts_model.specs.Limits.{most_built}
use Rattle.fts_model.specs.declared.cut.Cut.{Cut}
use Rattle.fts_model.specs.declared.cut.Cut.TheVariants.{Runs, Deal}

-- the limits of a cut: 1 to 65,536 adds in a row, or 1 to 64 segments in turn
abbrev pub IsCut : Cut → Type 0
IsCut (Runs n) = (1 ≤ n) × (n ≤ most_built)
IsCut (Deal m) = (1 ≤ m) × (m ≤ 64)

-- the number of builders that take adds in turn
abbrev pub builders : Cut → ℕ
builders (Runs n) = 1
builders (Deal m) = m

-- the number of adds that fill a segment
abbrev pub capacity : Cut → ℕ
capacity (Runs n) = n
capacity (Deal m) = most_built

-- The number of the segment that the j-th add goes to, both from 0; new segments are in the order of their first adds.
-- The builders take the adds in turn, and when all are full, each begins another segment.
abbrev pub place_of : Cut → ℕ → ℕ
place_of cut j = j / (builders cut * capacity cut) * builders cut + j % builders cut

-- groups with a member added to the group of this number, or to a new group after the last
abbrev pub put_into : {X : Type 0} → ℕ → X → List (List X) → List (List X)
put_into k x [] = (x ∷ []) ∷ []
put_into zero x (group ∷ groups) = (group ++ x ∷ []) ∷ groups
put_into (suc k) x (group ∷ groups) = group ∷ put_into k x groups

-- groups with more members added, the first of which is the j-th: the i-th goes to the group `place i`
abbrev pub dealt_from : {X : Type 0} → (ℕ → ℕ) → ℕ → List (List X) → List X → List (List X)
dealt_from place j groups [] = groups
dealt_from place j groups (x ∷ xs) = dealt_from place (j + 1) (put_into (place j) x groups) xs

-- the groups of members that a cut makes
abbrev pub groups_of : {X : Type 0} → Cut → List X → List (List X)
groups_of cut xs = dealt_from (place_of cut) 0 [] xs
