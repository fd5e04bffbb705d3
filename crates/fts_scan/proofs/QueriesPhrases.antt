-- The occurrences of a phrase in a text.
use Rattle.std.proofs.Common.{◌≡◌, ◌↔◌, ℕ, ◌+◌, ◌==◌, ℤ, pos, ◌+ℤ◌, ◌-ℤ◌, Bool, true, ◌&&◌, List, [], ◌∷◌, refl, ap, subst, arith, All, Contains, IsTrue}
use Rattle.std.proofs.Common.{bytes_eq}
use Rattle.std.specs.List.{list_any, list_all}
use Rattle.std.proofs.lemmas.Bool.{and_parts, and_from, eqb-true, eq-eqb}
use Rattle.std.proofs.lemmas.Int.{ints}
use Rattle.std.proofs.lemmas.List.Folds.{Any-from_list_any, list_any-from_Any}
use Rattle.std.proofs.lemmas.List.Elements.{All-nil, All-cons, All-head, All-tail}
use Rattle.std.proofs.lemmas.Slice.Eq.{bytes_eq-Decides}
use Rattle.fts_model.specs.Queries.{stands_with, leads, phrase_in, PhraseIn}

-- if some member passes, there is one that does
some : {X : Type 0} (p : X → Bool) (xs : List X) → list_any p xs ≡ true → (x : X) × Contains xs x × (p x ≡ true)
some p xs h = let a = Any-from_list_any p xs h in (a.1, (a.0, a.2, a.3), a.4)

-- if a member passes, some member does
found : {X : Type 0} (p : X → Bool) (xs : List X) (x : X) → Contains xs x → p x ≡ true → list_any p xs ≡ true
found p xs x h e = list_any-from_Any p xs (h.0, x, h.1, h.2, e)

-- a member of a pattern is a token at its offset from a whole number
abbrev StandsAt : List (ℕ × List ℕ) → ℤ → ℕ × List ℕ → Type 0
StandsAt ts shift m = (position : ℕ) × (pos position ≡ shift +ℤ pos m.0) × Contains ts (position, m.1)

-- a member at its offset from the first is a token at its offset from a whole number
stands : (ts : List (ℕ × List ℕ)) (first token other : ℕ × List ℕ) → stands_with ts first token other ≡ true → StandsAt ts (pos token.0 -ℤ pos first.0) other
stands ts first token other h =
    let at = some (λ t. (t.0 + first.0 == token.0 + other.0) && bytes_eq t.1 other.1) ts h in
    let both = and_parts (at.0.0 + first.0 == token.0 + other.0) (bytes_eq at.0.1 other.1) at.2 in
    let apart = eqb-true (at.0.0 + first.0) (token.0 + other.0) both.0 in
    let P : ℕ × List ℕ → Type 0 = Contains ts in
    (at.0.0, omega (arith, ints, apart), subst P (ap (λ bs. (at.0.0, bs)) ((bytes_eq-Decides at.0.1 other.1).0 both.1)) at.1)

-- all members at their offsets from the first are tokens at their offsets from a whole number
all_stand : (ts : List (ℕ × List ℕ)) (first token : ℕ × List ℕ) (others : List (ℕ × List ℕ)) → list_all (stands_with ts first token) others ≡ true →
    All (StandsAt ts (pos token.0 -ℤ pos first.0)) others
all_stand ts first token [] h = All-nil (StandsAt ts (pos token.0 -ℤ pos first.0))
all_stand ts first token (other ∷ others) h =
    let both = and_parts (stands_with ts first token other) (list_all (stands_with ts first token) others) h in
    All-cons (StandsAt ts (pos token.0 -ℤ pos first.0)) other others (stands ts first token other both.0) (all_stand ts first token others both.1)

-- a token at its offset from a whole number is at its offset from the first
stands_from : (ts : List (ℕ × List ℕ)) (first other : ℕ × List ℕ) (position : ℕ) (shift : ℤ) → pos position ≡ shift +ℤ pos first.0 →
    StandsAt ts shift other → stands_with ts first (position, first.1) other ≡ true
stands_from ts first other position shift e at =
    let apart : at.0 + first.0 ≡ position + other.0 = omega (arith, ints, e, at.1) in
    found (λ t. (t.0 + first.0 == position + other.0) && bytes_eq t.1 other.1) ts (at.0, other.1) at.2
    (and_from (at.0 + first.0 == position + other.0) (bytes_eq other.1 other.1) (eq-eqb (at.0 + first.0) (position + other.0) apart)
    ((bytes_eq-Decides other.1 other.1).1 refl))

-- all tokens at their offsets from a whole number are at their offsets from the first
all_from : (ts : List (ℕ × List ℕ)) (first : ℕ × List ℕ) (others : List (ℕ × List ℕ)) (position : ℕ) (shift : ℤ) → pos position ≡ shift +ℤ pos first.0 →
    All (StandsAt ts shift) others → list_all (stands_with ts first (position, first.1)) others ≡ true
all_from ts first [] position shift e h = refl
all_from ts first (other ∷ others) position shift e h =
    and_from (stands_with ts first (position, first.1) other) (list_all (stands_with ts first (position, first.1)) others)
    (stands_from ts first other position shift e (All-head (StandsAt ts shift) other others h))
    (all_from ts first others position shift e (All-tail (StandsAt ts shift) other others h))

-- a phrase that passes the test satisfies the relation
relation : (ts pattern : List (ℕ × List ℕ)) → phrase_in ts pattern ≡ true → PhraseIn ts pattern
relation ts [] h = (pos 0, All-nil (StandsAt ts (pos 0)))
relation ts (first ∷ others) h =
    let at = some (leads ts first others) ts h in
    let token = at.0 in
    let both = and_parts (bytes_eq token.1 first.1) (list_all (stands_with ts first token) others) at.2 in
    let shift = pos token.0 -ℤ pos first.0 in
    let P : ℕ × List ℕ → Type 0 = Contains ts in
    let here : StandsAt ts shift first =
    (token.0, omega (arith, ints), subst P (ap (λ bs. (token.0, bs)) ((bytes_eq-Decides token.1 first.1).0 both.0)) at.1) in
    (shift, All-cons (StandsAt ts shift) first others here (all_stand ts first token others both.1))

-- a phrase that satisfies the relation passes the test
test : (ts pattern : List (ℕ × List ℕ)) → PhraseIn ts pattern → phrase_in ts pattern ≡ true
test ts [] h = refl
test ts (first ∷ others) h =
    let here = All-head (StandsAt ts h.0) first others h.1 in
    let token : ℕ × List ℕ = (here.0, first.1) in
    found (leads ts first others) ts token here.2
    (and_from (bytes_eq first.1 first.1) (list_all (stands_with ts first token) others) ((bytes_eq-Decides first.1 first.1).1 refl)
    (all_from ts first others here.0 h.0 here.1 (All-tail (StandsAt ts h.0) first others h.1)))

-- the test decides the relation
pub phrase_in-PhraseIn : (ts pattern : List (ℕ × List ℕ)) → IsTrue (phrase_in ts pattern) ↔ PhraseIn ts pattern
phrase_in-PhraseIn ts pattern = (relation ts pattern, test ts pattern)
