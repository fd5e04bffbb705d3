-- Members of lists.
use Rattle.std.proofs.Common.{◌≡◌, zero, suc, Bool, true, false, cond, ◌⊎◌, inl, inr, ⊎_elim, List, [], ◌∷◌, filter, refl, sym, ap, subst, ◌∙◌, arith, All}
use Rattle.std.proofs.Common.{AllPairs, Contains, ℕ, ◌+◌, ◌<◌, ◌++◌, take}
use Rattle.std.proofs.Common.{length, get_or}
use Rattle.std.proofs.lemmas.List.{take_more}
use Rattle.std.specs.List.{range_with_len}

-- the pairs of a list without its first member are in relation
pub pairs_behind : {X : Type 0} (R : X → X → Type 0) (x : X) (xs : List X) → AllPairs R (x ∷ xs) → AllPairs R xs
pairs_behind R x xs h i j d lt within = h (suc i) (suc j) d (omega (arith, lt)) (omega (arith, within))

-- the first member is in relation with each later one
pub pairs_front : {X : Type 0} (R : X → X → Type 0) (x : X) (xs : List X) → AllPairs R (x ∷ xs) → All (R x) xs
pairs_front R x xs h k d within = h 0 (suc k) d (omega arith) (omega (arith, within))

-- an empty list has no pairs
pub pairs_none : {X : Type 0} (R : X → X → Type 0) → AllPairs R []
pairs_none R i j d lt within = absurd (omega (arith, within))

-- a member is the first or a later one
pub Contains-cases : {X : Type 0} (y : X) (ys : List X) (z : X) → Contains (y ∷ ys) z → (y ≡ z) ⊎ Contains ys z
Contains-cases y ys z (zero, within, e) = inl e
Contains-cases y ys z (suc k, within, e) = inr (k, omega (arith, within), e)

-- the first member is one
pub Contains-first : {X : Type 0} (y : X) (ys : List X) (z : X) → y ≡ z → Contains (y ∷ ys) z
Contains-first y ys z e = (0, omega arith, e)

-- a member of the rest is a member
pub Contains-behind : {X : Type 0} (y : X) (ys : List X) (z : X) → Contains ys z → Contains (y ∷ ys) z
Contains-behind y ys z h = (suc h.0, omega (arith, h.1), h.2)

-- an empty list has no member
pub Contains-none : {X : Type 0} (z : X) → Contains [] z → ⊥
Contains-none z h = omega (arith, h.1)

-- two lists in one strict order with the same members begin with the same one
first_is : {X : Type 0} (R : X → X → Type 0) → ((a b : X) → R a b → R b a → ⊥) → (x y : X) (xs ys : List X) → AllPairs R (x ∷ xs) → AllPairs R (y ∷ ys) →
    Contains (y ∷ ys) x → Contains (x ∷ xs) y → x ≡ y
first_is R one_way x y xs ys p q h l =
    ⊎_elim (λ (same : y ≡ x). sym same)
    (λ (later : Contains ys x). ⊎_elim (λ (same : x ≡ y). same)
    (λ (behind : Contains xs y). absurd (one_way x y
    (let P : _ → Type 0 = R x in subst P behind.2 (pairs_front R x xs p behind.0 y behind.1))
    (let P : _ → Type 0 = R y in subst P later.2 (pairs_front R y ys q later.0 x later.1))))
    (Contains-cases x xs y l))
    (Contains-cases y ys x h)

-- if two lists in one strict order begin alike, the members of the one's rest are members of the other's rest
others_behind : {X : Type 0} (R : X → X → Type 0) → ((a b : X) → R a b → R b a → ⊥) → (x y : X) (xs ys : List X) → AllPairs R (x ∷ xs) → x ≡ y →
    ((z : X) → Contains (x ∷ xs) z → Contains (y ∷ ys) z) → (z : X) → Contains xs z → Contains ys z
others_behind {X} R one_way x y xs ys p same h z at =
    ⊎_elim
    (λ (here : y ≡ z).
    let P : X → Type 0 = R x in
    let up : R x z = subst P at.2 (pairs_front R x xs p at.0 z at.1) in
    let Q : X → Type 0 = λ a. R x a in
    let self : R x x = subst Q (sym here ∙ sym same) up in absurd (one_way x x self self))
    (λ (later : Contains ys z). later)
    (Contains-cases y ys z (h z (Contains-behind x xs z at)))

-- two lists in one strict order that have the same members are equal
pub one_order : {X : Type 0} (R : X → X → Type 0) → ((a b : X) → R a b → R b a → ⊥) → (xs ys : List X) → AllPairs R xs → AllPairs R ys →
    ((z : X) → Contains xs z → Contains ys z) → ((z : X) → Contains ys z → Contains xs z) → xs ≡ ys
one_order R one_way [] [] p q h l = refl
one_order R one_way [] (y ∷ ys) p q h l = absurd (Contains-none y (l y (Contains-first y ys y refl)))
one_order R one_way (x ∷ xs) [] p q h l = absurd (Contains-none x (h x (Contains-first x xs x refl)))
one_order R one_way (x ∷ xs) (y ∷ ys) p q h l =
    let same = first_is R one_way x y xs ys p q (h x (Contains-first x xs x refl)) (l y (Contains-first y ys y refl)) in
    let rest = one_order R one_way xs ys (pairs_behind R x xs p) (pairs_behind R y ys q)
    (others_behind R one_way x y xs ys p same h) (others_behind R one_way y x ys xs q (sym same) l) in
    ap (λ z. z ∷ xs) same ∙ ap (λ zs. y ∷ zs) rest

-- a member of a filtered list is a member that passes, by whether the first passes
kept_cases : {X : Type 0} (p : X → Bool) (x : X) (xs : List X) (b : Bool) (z : X) → p x ≡ b → (Contains (filter p xs) z → Contains xs z × (p z ≡ true)) →
    Contains (cond b (x ∷ filter p xs) (filter p xs)) z → Contains (x ∷ xs) z × (p z ≡ true)
kept_cases p x xs true z e rest h =
    ⊎_elim (λ (same : x ≡ z). (Contains-first x xs z same, ap p (sym same) ∙ e))
    (λ (later : Contains (filter p xs) z). let r = rest later in (Contains-behind x xs z r.0, r.1))
    (Contains-cases x (filter p xs) z h)
kept_cases p x xs false z e rest h = let r = rest h in (Contains-behind x xs z r.0, r.1)

-- a member of a filtered list is a member that passes
pub Contains-from_filter : {X : Type 0} (p : X → Bool) (xs : List X) (z : X) → Contains (filter p xs) z → Contains xs z × (p z ≡ true)
Contains-from_filter p [] z h = absurd (Contains-none z h)
Contains-from_filter p (x ∷ xs) z h = kept_cases p x xs (p x) z refl (Contains-from_filter p xs z) h

-- a filtered list has each member that passes, by whether the first passes
keeps : {X : Type 0} (p : X → Bool) (x : X) (xs : List X) (b : Bool) (z : X) → p x ≡ b → p z ≡ true → (x ≡ z) ⊎ Contains (filter p xs) z →
    Contains (cond b (x ∷ filter p xs) (filter p xs)) z
keeps p x xs true z e passes h =
    ⊎_elim (λ (same : x ≡ z). Contains-first x (filter p xs) z same) (λ (later : Contains (filter p xs) z). Contains-behind x (filter p xs) z later) h
keeps p x xs false z e passes h =
    ⊎_elim (λ (same : x ≡ z). let no : true ≡ false = sym passes ∙ ap p (sym same) ∙ e in cc) (λ (later : Contains (filter p xs) z). later) h

-- a filtered list has each member that passes
pub Contains-filter : {X : Type 0} (p : X → Bool) (xs : List X) (z : X) → Contains xs z → p z ≡ true → Contains (filter p xs) z
Contains-filter p [] z h passes = absurd (Contains-none z h)
Contains-filter p (x ∷ xs) z h passes =
    keeps p x xs (p x) z refl passes
    (⊎_elim (λ (same : x ≡ z). inl same) (λ (later : Contains xs z). inr (Contains-filter p xs z later passes)) (Contains-cases x xs z h))

-- the first members and the next one
pub taken : {X : Type 0} (xs : List X) (i : ℕ) (x : X) → i < length xs → x ≡ get_or xs i x → take (i + 1) xs ≡ take i xs ++ x ∷ []
taken xs i x within is = take_more xs i x within ∙ ap (λ y. take i xs ++ y ∷ []) (sym is)

-- a range of numbers with one more
pub range_with_len-push : (first n : ℕ) → range_with_len first (suc n) ≡ range_with_len first n ++ (first + n) ∷ []
range_with_len-push first zero = ap (λ k. k ∷ []) (omega arith)
range_with_len-push first (suc n) =
    ap (λ ks. first ∷ ks) (range_with_len-push (first + 1) n ∙ ap (λ k. range_with_len (first + 1) n ++ k ∷ []) (omega arith))
