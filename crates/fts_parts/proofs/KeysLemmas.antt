-- The first of keys, in order.
use Rattle.std.proofs.Common.{◌≡◌, ℕ, zero, suc, ◌+◌, ◌-◌, ◌<◌, ◌≤◌, ◌==◌, nat_lt, slice_get, Bool, true, false, cond, ⊎_elim, List, [], ◌∷◌, ◌++◌, length}
use Rattle.std.proofs.Common.{take, fold, Option, Some, None, refl, sym, ap, subst, ◌∙◌, arith, append_assoc, append-nil, length-append, All, AllPairs, get_or}
use Rattle.std.proofs.Common.{sum_by}
use Rattle.std.specs.Cmp.{IsTotalOrder}
use Rattle.std.specs.FinMap.{nat_cmp-IsAntisymmetric}
use Rattle.std.specs.List.Sorted.{IsPermutation, IsSortedBy}
use Rattle.std.specs.Ordering.{nat_cmp, ordering_then, ordering_reverse, is_lt, is_eq, is_ge}
use Rattle.std.specs.declared.cmp.Ordering.{Ordering}
use Rattle.std.specs.declared.cmp.Ordering.TheVariants.{Less, Equal, Greater}
use Rattle.std.proofs.lemmas.Bool.{cases_Bool, cases_lt}
use Rattle.std.proofs.lemmas.Option.{slice_get_within, get_or_from_slice_get}
use Rattle.std.proofs.lemmas.Cmp.{nat_cmp_total, then_total, on_total, tied_itself}
use Rattle.std.proofs.lemmas.List.{length-take, get_or-take, take_all, take-append-le, get_or_append_left, get_or-append-add}
use Rattle.std.proofs.lemmas.List.Elements.{All-nil, All-cons, All-head, All-tail, All-take}
use Rattle.std.proofs.lemmas.List.Kept.{AllPairs-cons}
use Rattle.std.proofs.lemmas.List.Sums.{fold_push, sum_by-cons}
use Rattle.std.proofs.lemmas.List.Sorted.{sorted_far, ranks_by, sum_by-IsPermutation}
use Rattle.fts_model.proofs.Lists.{pairs_none, pairs_front, pairs_behind}
use Rattle.fts_parts.specs.declared.top_k.Key.{Key}
use Rattle.fts_parts.specs.Ranks.{keep_keys}
use Rattle.fts_parts.specs.Keys.{key_cmp, key_lt, put_key, first_keys, IsBound, IsTopK}

-- keys stand in one order
pub key_total : IsTotalOrder key_cmp
key_total =
    then_total (on_total (λ (k : Key). k.rank) nat_cmp_total) (then_total (on_total (λ (k : Key). k.stamp) nat_cmp_total)
    (on_total (λ (k : Key). k.doc) nat_cmp_total))

-- the first of two orderings that isn't equal
then_equal : (o p : Ordering) → ordering_then o p ≡ Equal → (o ≡ Equal) × (p ≡ Equal)
then_equal Less p h = cc
then_equal Equal p h = (refl, h)
then_equal Greater p h = cc

-- keys that compare as equal are one
key_same : (a b : Key) → key_cmp a b ≡ Equal → a ≡ b
key_same a b h =
    let first = then_equal (nat_cmp a.rank b.rank) (ordering_then (nat_cmp a.stamp b.stamp) (nat_cmp a.doc b.doc)) h in
    let second = then_equal (nat_cmp a.stamp b.stamp) (nat_cmp a.doc b.doc) first.1 in
    ap (λ n. record { rank = n; stamp = a.stamp; doc = a.doc }) (nat_cmp-IsAntisymmetric a.rank b.rank first.0)
    ∙ ap (λ n. record { rank = b.rank; stamp = n; doc = a.doc }) (nat_cmp-IsAntisymmetric a.stamp b.stamp second.0)
    ∙ ap (λ n. record { rank = b.rank; stamp = b.stamp; doc = n }) (nat_cmp-IsAntisymmetric a.doc b.doc second.1)

-- what is less
less_of : (o : Ordering) → is_lt o ≡ true → o ≡ Less
less_of Less h = refl
less_of Equal h = cc
less_of Greater h = cc

-- only one of two keys is before the other
lt_one_way : (a b : Key) → key_lt a b ≡ true → key_lt b a ≡ false
lt_one_way a b h = ap is_lt (key_total.antisymm b a ∙ ap ordering_reverse (less_of (key_cmp a b) h))

lt_trans : (a b c : Key) → key_lt a b ≡ true → key_lt b c ≡ true → key_lt a c ≡ true
lt_trans a b c h l = ap is_lt (key_total.trans a b c (less_of (key_cmp a b) h) (less_of (key_cmp b c) l))

-- what stands before a key stands before one that isn't before that, however they compare
lt_le_at : (a b c : Key) (o : Ordering) → key_cmp c b ≡ o → key_lt a b ≡ true → key_lt c b ≡ false → key_lt a c ≡ true
lt_le_at a b c Less e h l = let yes = ap is_lt e in cc
lt_le_at a b c Equal e h l = let P : Key → Type 0 = λ k. key_lt a k ≡ true in subst P (sym (key_same c b e)) h
lt_le_at a b c Greater e h l = lt_trans a b c h (ap is_lt (key_total.antisymm b c ∙ ap ordering_reverse e))

lt_le : (a b c : Key) → key_lt a b ≡ true → key_lt c b ≡ false → key_lt a c ≡ true
lt_le a b c h l = lt_le_at a b c (key_cmp c b) refl h l

-- what isn't before a key isn't before one that stands before that or at it
not_before : (a b c : Key) → key_lt a b ≡ false → key_lt b c ≡ false → key_lt a c ≡ false
not_before a b c h l =
    ⊎_elim (λ (yes : key_lt a c ≡ true). let contra = lt_le a c b yes l in cc) (λ (no : key_lt a c ≡ false). no) (cases_Bool (key_lt a c))

-- a key isn't before itself
not_itself : (a : Key) → key_lt a a ≡ false
not_itself a = ap is_lt (tied_itself key_total a)

-- a list is shortened once
take-shorter : (k : ℕ) (xs : List Key) → take k xs ≡ take k (take (suc k) xs)
take-shorter zero xs = refl
take-shorter (suc k) [] = refl
take-shorter (suc k) (x ∷ xs) = ap (λ ys. x ∷ ys) (take-shorter k xs)

take-behind : (k : ℕ) (x : Key) (xs : List Key) → take k (x ∷ xs) ≡ take k (x ∷ take k xs)
take-behind zero x xs = refl
take-behind (suc k) x xs = ap (λ ys. x ∷ ys) (take-shorter k xs)

-- if two keys are before all others, either may be put in front first, however they compare
front_at : (a b : Key) (rest : List Key) (o : Ordering) → key_cmp a b ≡ o →
    cond (key_lt b a) (b ∷ a ∷ rest) (a ∷ b ∷ rest) ≡ cond (key_lt a b) (a ∷ b ∷ rest) (b ∷ a ∷ rest)
front_at a b rest Less e =
    let before : key_lt a b ≡ true = ap is_lt e in
    ap (λ c. cond c (b ∷ a ∷ rest) (a ∷ b ∷ rest)) (lt_one_way a b before) ∙ sym (ap (λ c. cond c (a ∷ b ∷ rest) (b ∷ a ∷ rest)) before)
front_at a b rest Equal e =
    let P : Key → Type 0 = λ x. cond (key_lt x a) (x ∷ a ∷ rest) (a ∷ x ∷ rest) ≡ cond (key_lt a x) (a ∷ x ∷ rest) (x ∷ a ∷ rest) in
    subst P (key_same a b e) refl
front_at a b rest Greater e =
    let behind : key_lt b a ≡ true = ap is_lt (key_total.antisymm b a ∙ ap ordering_reverse e) in
    ap (λ c. cond c (b ∷ a ∷ rest) (a ∷ b ∷ rest)) behind ∙ sym (ap (λ c. cond c (a ∷ b ∷ rest) (b ∷ a ∷ rest)) (lt_one_way b a behind))

-- if only the first of two keys is before a third, either may be put first
apart_swap : (other : Key) (others : List Key) (a b : Key) → key_lt a other ≡ true → key_lt b other ≡ false →
    put_key (a ∷ other ∷ others) b ≡ put_key (other ∷ put_key others b) a
apart_swap other others a b e f =
    let rest = other ∷ others in
    let behind : key_lt b a ≡ false = not_before b other a f (lt_one_way a other e) in
    ap (λ c. cond c (b ∷ a ∷ rest) (a ∷ cond (key_lt b other) (b ∷ rest) (other ∷ put_key others b))) behind
    ∙ ap (λ c. a ∷ cond c (b ∷ rest) (other ∷ put_key others b)) f
    ∙ sym (ap (λ c. cond c (a ∷ other ∷ put_key others b) (other ∷ put_key (put_key others b) a)) e)

-- two keys may be put among others in either order, whether they stand before the first of these or not
swap_at : (other : Key) (others : List Key) (a b : Key) (x y : Bool) → key_lt a other ≡ x → key_lt b other ≡ y →
    put_key (put_key others a) b ≡ put_key (put_key others b) a →
    put_key (cond x (a ∷ other ∷ others) (other ∷ put_key others a)) b ≡ put_key (cond y (b ∷ other ∷ others) (other ∷ put_key others b)) a
swap_at other others a b true true e f same =
    let rest = other ∷ others in
    ap (λ c. cond (key_lt b a) (b ∷ a ∷ rest) (a ∷ cond c (b ∷ rest) (other ∷ put_key others b))) f
    ∙ front_at a b rest (key_cmp a b) refl
    ∙ sym (ap (λ c. cond (key_lt a b) (a ∷ b ∷ rest) (b ∷ cond c (a ∷ rest) (other ∷ put_key others a))) e)
swap_at other others a b true false e f same = apart_swap other others a b e f
swap_at other others a b false true e f same = sym (apart_swap other others b a f e)
swap_at other others a b false false e f same =
    ap (λ c. cond c (b ∷ other ∷ put_key others a) (other ∷ put_key (put_key others a) b)) f
    ∙ ap (λ ks. other ∷ ks) same
    ∙ sym (ap (λ c. cond c (a ∷ other ∷ put_key others b) (other ∷ put_key (put_key others b) a)) e)

-- two keys may be put among others in either order
put_key-swap : (keys : List Key) (a b : Key) → put_key (put_key keys a) b ≡ put_key (put_key keys b) a
put_key-swap [] a b = front_at a b [] (key_cmp a b) refl
put_key-swap (other ∷ others) a b = swap_at other others a b (key_lt a other) (key_lt b other) refl refl (put_key-swap others a b)

-- what is beyond the first keys has no part in what they are with one more
pub take-put_key : (k : ℕ) (keys : List Key) (key : Key) → take k (put_key keys key) ≡ take k (put_key (take k keys) key)
take-put_key zero keys key = refl
take-put_key (suc k) [] key = refl
take-put_key (suc k) (other ∷ others) key =
    elim (key_lt key other) as (λ b. take (suc k) (cond b (key ∷ other ∷ others) (other ∷ put_key others key)) ≡ take (suc k)
    (cond b (key ∷ other ∷ take k others) (other ∷ put_key (take k others) key)))
    [ true ↦ ap (λ ks. key ∷ ks) (take-behind k other others) | false ↦ ap (λ ks. other ∷ ks) (take-put_key k others key) ]

-- two keys may be taken in either order
take-swap : (k : ℕ) (keys : List Key) (a b : Key) → take k (put_key (take k (put_key keys a)) b) ≡ take k (put_key (take k (put_key keys b)) a)
take-swap k keys a b =
    sym (take-put_key k (put_key keys a) b) ∙ ap (take k) (put_key-swap keys a b) ∙ take-put_key k (put_key keys b) a

-- the first of keys that come may be taken last
pub keep-last : (k : ℕ) (keys : List Key) (key : Key) (more : List Key) →
    keep_keys k keys (key ∷ more) ≡ take k (put_key (keep_keys k keys more) key)
keep-last k keys key [] = refl
keep-last k keys key (other ∷ more) =
    ap (λ ks. keep_keys k ks more) (take-swap k keys key other) ∙ keep-last k (take k (put_key keys other)) key more

-- the first keys with one more
pub first_keys-push : (k : ℕ) (keys : List Key) (key : Key) → first_keys k (keys ++ key ∷ []) ≡ take k (put_key (first_keys k keys) key)
first_keys-push k keys key = ap (take k) (fold_push put_key [] keys key) ∙ take-put_key k (fold put_key [] keys) key

-- no key stands before one in front of it
abbrev InOrder : List Key → Type 0
InOrder keys = AllPairs (λ a b. key_lt b a ≡ false) keys

-- what holds of keys and of one more holds with it put among them
pub All-put_key : (P : Key → Type 0) (keys : List Key) (key : Key) → P key → All P keys → All P (put_key keys key)
All-put_key P [] key p ps = All-cons P key [] p (All-nil P)
All-put_key P (other ∷ others) key p ps =
    let behind = All-put_key P others key p (All-tail P other others ps) in
    elim (key_lt key other) as (λ b. All P (cond b (key ∷ other ∷ others) (other ∷ put_key others key)))
    [ true ↦ All-cons P key (other ∷ others) p ps | false ↦ All-cons P other (put_key others key) (All-head P other others ps) behind ]

-- keys in order stay so with one more, whether it stands before the first or not
put_at : (other : Key) (others : List Key) (key : Key) (b : Bool) → key_lt key other ≡ b → InOrder (other ∷ others) → InOrder (put_key others key) →
    InOrder (cond b (key ∷ other ∷ others) (other ∷ put_key others key))
put_at other others key true e up rest =
    let R : Key → Key → Type 0 = λ a b. key_lt b a ≡ false in
    let here = lt_one_way key other e in
    AllPairs-cons R key (other ∷ others)
    (All-cons (R key) other others here (λ k d lt. not_before (get_or others k d) other key (pairs_front R other others up k d lt) here)) up
put_at other others key false e up rest =
    let R : Key → Key → Type 0 = λ a b. key_lt b a ≡ false in
    AllPairs-cons R other (put_key others key) (All-put_key (R other) others key e (pairs_front R other others up)) rest

in_order-put : (keys : List Key) (key : Key) → InOrder keys → InOrder (put_key keys key)
in_order-put [] key up = AllPairs-cons (λ a b. key_lt b a ≡ false) key [] (All-nil (λ b. key_lt b key ≡ false)) (pairs_none (λ a b. key_lt b a ≡ false))
in_order-put (other ∷ others) key up =
    put_at other others key (key_lt key other) refl up (in_order-put others key (pairs_behind (λ a b. key_lt b a ≡ false) other others up))

in_order-fold : (done rest : List Key) → InOrder done → InOrder (fold put_key done rest)
in_order-fold done [] up = up
in_order-fold done (key ∷ rest) up = in_order-fold (put_key done key) rest (in_order-put done key up)

in_order-all : (keys : List Key) → InOrder (fold put_key [] keys)
in_order-all keys = in_order-fold [] keys (pairs_none (λ a b. key_lt b a ≡ false))

-- a key that stands before none is put last
put_last : (keys : List Key) (key : Key) → All (λ other. key_lt key other ≡ false) keys → put_key keys key ≡ keys ++ key ∷ []
put_last [] key h = refl
put_last (other ∷ others) key h =
    let P : Key → Type 0 = λ other. key_lt key other ≡ false in
    ap (λ b. cond b (key ∷ other ∷ others) (other ∷ put_key others key)) (All-head P other others h)
    ∙ ap (λ ks. other ∷ ks) (put_last others key (All-tail P other others h))

-- in a list in order, the one behind some stands before none of them
behind_front : (done : List Key) (key : Key) (rest : List Key) → InOrder (done ++ key ∷ rest) → All (λ other. key_lt key other ≡ false) done
behind_front done key rest h = λ k d lt.
    let P : Key → Type 0 = λ other. key_lt (get_or (done ++ key ∷ rest) (length done + 0) d) other ≡ false in
    let Q : Key → Type 0 = λ x. key_lt x (get_or done k d) ≡ false in
    subst Q (get_or-append-add done (key ∷ rest) 0 d)
    (subst P (get_or_append_left done (key ∷ rest) d k lt) (h k (length done + 0) d (omega (arith, lt)) (simp length-append (omega arith))))

-- a list in order, put into order key by key, stays
fold-ordered : (done rest : List Key) → InOrder (done ++ rest) → fold put_key done rest ≡ done ++ rest
fold-ordered done [] h = sym (append-nil done)
fold-ordered done (key ∷ rest) h =
    let P : List Key → Type 0 = InOrder in
    ap (λ ks. fold put_key ks rest) (put_last done key (behind_front done key rest h))
    ∙ fold-ordered (done ++ key ∷ []) rest (subst P (sym (append_assoc done (key ∷ []) rest)) h)
    ∙ append_assoc done (key ∷ []) rest

-- the first of a list in order are in order
in_order-take : (k : ℕ) (keys : List Key) → InOrder keys → InOrder (take k keys)
in_order-take k keys h = λ i j d up lt.
    let here : j < k = omega (arith, length-take k keys, lt) in
    let within : j < length keys = omega (arith, length-take k keys, lt) in
    let early : i < k = omega (arith, up, here) in
    let P : Key → Type 0 = λ a. key_lt (get_or (take k keys) j d) a ≡ false in
    let Q : Key → Type 0 = λ b. key_lt b (get_or keys i d) ≡ false in
    subst P (sym (get_or-take k keys i d early)) (subst Q (sym (get_or-take k keys j d here)) (h i j d up within))

-- the first of the first are the first
pub first_keys-again : (k : ℕ) (keys : List Key) → first_keys k (first_keys k keys) ≡ first_keys k keys
first_keys-again k keys =
    let all = fold put_key [] keys in
    ap (take k) (fold-ordered [] (take k all) (in_order-take k all (in_order-all keys))) ∙ take_all k (take k all) (omega (arith, length-take k all))

-- how often a key stands in a list
abbrev times : Key → List Key → ℕ
times key keys = sum_by (λ k. cond (is_eq (key_cmp k key)) 1 0) keys

times-cons : (z key : Key) (keys : List Key) → times z (key ∷ keys) ≡ cond (is_eq (key_cmp key z)) 1 0 + times z keys
times-cons z key keys = sum_by-cons (λ k. cond (is_eq (key_cmp k z)) 1 0) key keys

-- a key put among others stands there once more
times-put : (z : Key) (keys : List Key) (key : Key) → times z (put_key keys key) ≡ times z keys + cond (is_eq (key_cmp key z)) 1 0
times-put z [] key = omega arith
times-put z (other ∷ others) key =
    elim (key_lt key other) as (λ b. times z (cond b (key ∷ other ∷ others) (other ∷ put_key others key)) ≡ times z (other ∷ others) + cond
    (is_eq (key_cmp key z)) 1 0) [
      | true ↦ omega (arith, times-cons z key (other ∷ others))
      | false ↦ omega (arith, times-cons z other (put_key others key), times-cons z other others, times-put z others key)
    ]

times-fold : (z : Key) (done rest : List Key) → times z (fold put_key done rest) ≡ times z done + times z rest
times-fold z done [] = omega arith
times-fold z done (key ∷ rest) = omega (arith, times-fold z (put_key done key) rest, times-put z done key, times-cons z key rest)

-- a key before all others doesn't stand among them
times-none : (z : Key) (keys : List Key) → All (λ key. key_lt z key ≡ true) keys → times z keys ≡ 0
times-none z [] h = refl
times-none z (key ∷ keys) h =
    let P : Key → Type 0 = λ key. key_lt z key ≡ true in
    let above : key_cmp key z ≡ Greater = key_total.antisymm key z ∙ ap ordering_reverse (less_of (key_cmp z key) (All-head P key keys h)) in
    let zero : cond (is_eq (key_cmp key z)) 1 0 ≡ 0 = ap {B = ℕ} (λ o. cond (is_eq o) 1 0) above in
    omega (arith, times-cons z key keys, zero, times-none z keys (All-tail P key keys h))

-- a key stands in a list that begins with it
times-here : (key : Key) (keys : List Key) → times key (key ∷ keys) ≡ 1 + times key keys
times-here key keys =
    let one : cond (is_eq (key_cmp key key)) 1 0 ≡ 1 = ap {B = ℕ} (λ o. cond (is_eq o) 1 0) (tied_itself key_total key) in
    omega (arith, times-cons key key keys, one)

-- lists in order of the same keys don't begin with a lower one
no_lower : (a b : Key) (us bs : List Key) → InOrder (b ∷ bs) → times a (a ∷ us) ≡ times a (b ∷ bs) → key_lt a b ≡ true → ⊥
no_lower a b us bs up same low =
    let R : Key → Key → Type 0 = λ a b. key_lt b a ≡ false in
    let none = times-none a (b ∷ bs) (All-cons (λ key. key_lt a key ≡ true) b bs low (λ k d lt. lt_le a b (get_or bs k d) low (pairs_front R b bs up k d lt)))
    in
    omega (arith, same, none, times-here a us)

-- they begin with the same key, however the first ones compare
same_first : (a b : Key) (us bs : List Key) (o : Ordering) → key_cmp a b ≡ o → InOrder (a ∷ us) → InOrder (b ∷ bs) →
    ((z : Key) → times z (a ∷ us) ≡ times z (b ∷ bs)) → a ≡ b
same_first a b us bs Less e up ups same = absurd (no_lower a b us bs ups (same a) (ap is_lt e))
same_first a b us bs Equal e up ups same = key_same a b e
same_first a b us bs Greater e up ups same =
    absurd (no_lower b a bs us up (sym (same b)) (ap is_lt (key_total.antisymm b a ∙ ap ordering_reverse e)))

-- lists in order of the same keys are one
one_list : (us bs : List Key) → InOrder us → InOrder bs → ((z : Key) → times z us ≡ times z bs) → us ≡ bs
one_list [] [] up ups same = refl
one_list [] (b ∷ bs) up ups same = absurd (omega (arith, same b, times-here b bs))
one_list (a ∷ us) [] up ups same = absurd (omega (arith, same a, times-here a us))
one_list (a ∷ us) (b ∷ bs) up ups same =
    let R : Key → Key → Type 0 = λ a b. key_lt b a ≡ false in
    let first = same_first a b us bs (key_cmp a b) refl up ups same in
    let P : Key → Type 0 = λ x. (z : Key) → times z (a ∷ us) ≡ times z (x ∷ bs) in
    let alike = subst P (sym first) same in
    ap (λ x. x ∷ us) first
    ∙ ap (λ xs. b ∷ xs) (one_list us bs (pairs_behind R a us up) (pairs_behind R b bs ups) (λ z. omega (arith, alike z, times-cons z a us, times-cons z a bs)))

-- keys that were sorted and cut are the first
pub first_keys-sorted : (k : ℕ) (keys list : List Key) → IsPermutation keys list → IsSortedBy key_lt list → take k list ≡ first_keys k keys
first_keys-sorted k keys list is sorted =
    ap (take k) (one_list list (fold put_key [] keys)
    (λ i j d up lt. sorted_far key_lt (ranks_by key_total (λ (x : Key). x)) list sorted i j d (omega (arith, up)) lt)
    (in_order-all keys)
    (λ z. omega (arith, sum_by-IsPermutation (λ (x : Key). cond (is_eq (key_cmp x z)) 1 0) keys list is, times-fold z [] keys)))

-- a key that doesn't stand before the bound isn't one of the first
pub beyond : (k : ℕ) (keys : List Key) (bound key : Key) → IsBound k keys bound → key_lt key bound ≡ false → take k (put_key keys key) ≡ keys
beyond k keys bound key is behind =
    ap (take k) (put_last keys key (λ i d lt. not_before key bound (get_or keys i d) behind (is.within i d lt)))
    ∙ take-append-le k keys (key ∷ []) (omega (arith, is.full)) ∙ take_all k keys (omega (arith, is.full))

-- a key put among others makes them one more
pub length-put_key : (keys : List Key) (key : Key) → length (put_key keys key) ≡ length keys + 1
length-put_key [] key = omega arith
length-put_key (other ∷ others) key =
    elim (key_lt key other) as (λ b. length (cond b (key ∷ other ∷ others) (other ∷ put_key others key)) ≡ length (other ∷ others) + 1)
    [ true ↦ omega arith | false ↦ omega (arith, length-put_key others key) ]

-- a bound stays one when a key before it is taken
pub bound-put : (k : ℕ) (keys : List Key) (bound key : Key) → IsBound k keys bound → key_lt key bound ≡ true → IsBound k (take k (put_key keys key)) bound
bound-put k keys bound key is before = record {
  full = omega (arith, length-take k (put_key keys key), length-put_key keys key, is.full);
  within = All-take (λ other. key_lt bound other ≡ false) k (put_key keys key) (All-put_key (λ other. key_lt bound other ≡ false) keys key
      (lt_one_way key bound before) is.within);
}

-- a bound stays one whatever key is taken
pub bound-push : (k : ℕ) (keys : List Key) (bound key : Key) → IsBound k keys bound → IsBound k (take k (put_key keys key)) bound
bound-push k keys bound key is =
    ⊎_elim (λ (before : key_lt key bound ≡ true). bound-put k keys bound key is before)
    (λ (behind : key_lt key bound ≡ false). let P : List Key → Type 0 = λ ks. IsBound k ks bound in subst P (sym (beyond k keys bound key is behind)) is)
    (cases_Bool (key_lt key bound))

-- what holds of no bound, or of one, holds of it with one key more
pub top_k-push : (k : ℕ) (held : List Key) (bound : Option Key) (key : Key) → IsTopK k held bound → IsTopK k (held ++ key ∷ []) bound
top_k-push k held None key is = is
top_k-push k held (Some bound) key is =
    let P : List Key → Type 0 = λ ks. IsBound k ks bound in
    subst P (sym (first_keys-push k held key)) (bound-push k (first_keys k held) bound key is)

-- a key of a higher rank than the bound isn't before it
pub higher_rank : (key bound : Key) → nat_lt bound.rank key.rank ≡ true → key_lt key bound ≡ false
higher_rank key bound h =
    let above : nat_cmp bound.rank key.rank ≡ Less = ap (λ b. cond b Less (cond (bound.rank == key.rank) Equal Greater)) h in
    lt_one_way bound key (ap (λ o. is_lt (ordering_then o (ordering_then (nat_cmp bound.stamp key.stamp) (nat_cmp bound.doc key.doc)))) above)

-- a rank above another is so of one below that
pub lower_rank : (low rank high : ℕ) → nat_lt low rank ≡ true → rank ≤ high → nat_lt low high ≡ true
lower_rank low rank high above most = grind arith

-- what isn't less is behind or at it
pub not_lt : (o : Ordering) → is_ge o ≡ true → is_lt o ≡ false
not_lt Less h = sym h
not_lt Equal h = refl
not_lt Greater h = refl

-- the last key of a full list is a bound of it, or of none where the list is empty
pub top_k-last : (k : ℕ) (held kept : List Key) (bound : Option Key) → kept ≡ first_keys k held → length kept ≡ k → bound ≡ slice_get kept (length kept - 1) →
    IsTopK k kept bound
top_k-last k held kept None is full last = tt
top_k-last k held kept (Some bound) is full last =
    let n = length kept - 1 in
    let at : slice_get kept n ≡ Some bound = sym last in
    let inside : n < length kept = slice_get_within kept n bound at in
    let P : List Key → Type 0 = InOrder in
    let up : InOrder kept = subst P (sym is) (in_order-take k (fold put_key [] held) (in_order-all held)) in
    let Q : List Key → Type 0 = λ ks. IsBound k ks bound in
    let kept_is : IsBound k kept bound = record {
      full = full;
      within = λ i e lt.
          let same : get_or kept n e ≡ bound = get_or_from_slice_get kept n bound e at in
          let R : Key → Type 0 = λ b. key_lt b (get_or kept i e) ≡ false in
          subst R same
          (⊎_elim (λ (early : i < n). up i n e early inside)
          (λ (late : n ≤ i).
          let here : i ≡ n = omega (arith, late, lt, inside) in
          let S : ℕ → Type 0 = λ m. key_lt (get_or kept n e) (get_or kept m e) ≡ false in
          subst S (sym here) (not_itself (get_or kept n e)))
          (cases_lt i n));
    } in
    subst Q (sym (ap (first_keys k) is ∙ first_keys-again k held ∙ sym is)) kept_is
