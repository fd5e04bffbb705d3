-- The first keys are among those of the best ranks, if there are enough of these.
use Rattle.std.proofs.Common.{◌≡◌, ℕ, ◌+◌, ◌≤◌, ◌==◌, nat_lt, Bool, true, false, not, cond, List, [], ◌∷◌, ◌++◌, length, take, fold, filter, refl, sym, ap, ◌∙◌}
use Rattle.std.proofs.Common.{arith, length-append, All, get_or}
use Rattle.std.specs.Prelude.{nat_le}
use Rattle.std.specs.Ordering.{nat_cmp, ordering_then, is_lt}
use Rattle.std.specs.declared.cmp.Ordering.TheVariants.{Less, Equal, Greater}
use Rattle.std.proofs.lemmas.List.{take-append-le}
use Rattle.std.proofs.lemmas.List.Elements.{All-nil, All-head, All-tail, filter-append}
use Rattle.fts_parts.specs.declared.top_k.Key.{Key}
use Rattle.fts_parts.specs.Keys.{first_keys, key_lt, put_key}
use Rattle.fts_parts.proofs.KeysLemmas.{All-put_key, higher_rank, length-put_key}

-- whether a key has a rank or a better one
abbrev pub within : ℕ → Key → Bool
within most key = nat_le key.rank most

-- a key of a lower rank stands before another
lower_first : (a b : Key) → nat_lt a.rank b.rank ≡ true → key_lt a b ≡ true
lower_first a b h =
    let below : nat_cmp a.rank b.rank ≡ Less = ap (λ c. cond c Less (cond (a.rank == b.rank) Equal Greater)) h in
    ap (λ o. is_lt (ordering_then o (ordering_then (nat_cmp a.stamp b.stamp) (nat_cmp a.doc b.doc)))) below

-- a rank within a bound is below one that isn't
ranks_apart : (x y most : ℕ) → nat_le x most ≡ true → nat_le y most ≡ false → nat_lt x y ≡ true
ranks_apart x y most low high = grind arith

-- a key before all of some is put before them
put-front : (front back : List Key) (key : Key) → All (λ other. key_lt key other ≡ true) back → put_key (front ++ back) key ≡ put_key front key ++ back
put-front [] [] key h = refl
put-front [] (other ∷ others) key h =
    let P : Key → Type 0 = λ other. key_lt key other ≡ true in
    ap (λ c. cond c (key ∷ other ∷ others) (other ∷ put_key others key)) (All-head P other others h)
put-front (a ∷ front) back key h =
    elim (key_lt key a) as (λ c. cond c (key ∷ a ∷ (front ++ back)) (a ∷ put_key (front ++ back) key) ≡ cond c (key ∷ a ∷ front) (a ∷ put_key front key)
    ++ back)
    [ true ↦ refl | false ↦ ap (λ ks. a ∷ ks) (put-front front back key h) ]

-- a key before none of some is put behind them
put-behind : (front back : List Key) (key : Key) → All (λ other. key_lt key other ≡ false) front → put_key (front ++ back) key ≡ front ++ put_key back key
put-behind [] back key h = refl
put-behind (a ∷ front) back key h =
    let P : Key → Type 0 = λ other. key_lt key other ≡ false in
    ap (λ c. cond c (key ∷ a ∷ (front ++ back)) (a ∷ put_key (front ++ back) key)) (All-head P a front h)
    ∙ ap (λ ks. a ∷ ks) (put-behind front back key (All-tail P a front h))

-- keys taken into two lists apart, as far as they are
abbrev Apart : ℕ → List Key → Type 0
Apart most keys =
    (front back : List Key) → All (λ key. within most key ≡ true) front → All (λ key. within most key ≡ false) back →
    fold put_key (front ++ back) keys ≡ fold put_key front (filter (within most) keys) ++ fold put_key back (filter (λ key. not (within most key)) keys)

apart-step : (most : ℕ) (key : Key) (keys front back : List Key) (b : Bool) → within most key ≡ b → Apart most keys →
    All (λ key. within most key ≡ true) front → All (λ key. within most key ≡ false) back →
    fold put_key (put_key (front ++ back) key) keys
    ≡ fold put_key front (cond b (key ∷ filter (within most) keys) (filter (within most) keys))
    ++ fold put_key back (cond (not b) (key ∷ filter (λ key. not (within most key)) keys) (filter (λ key. not (within most key)) keys))
apart-step most key keys front back true e rest good bad =
    ap (λ ks. fold put_key ks keys)
    (put-front front back key (λ k d lt. lower_first key (get_or back k d) (ranks_apart key.rank (get_or back k d).rank most e (bad k d lt))))
    ∙ rest (put_key front key) back (All-put_key (λ key. within most key ≡ true) front key e good) bad
apart-step most key keys front back false e rest good bad =
    ap (λ ks. fold put_key ks keys)
    (put-behind front back key (λ k d lt. higher_rank key (get_or front k d) (ranks_apart (get_or front k d).rank key.rank most (good k d lt) e)))
    ∙ rest front (put_key back key) good (All-put_key (λ key. within most key ≡ false) back key e bad)

apart : (most : ℕ) (keys : List Key) → Apart most keys
apart most [] front back good bad = refl
apart most (key ∷ keys) front back good bad = apart-step most key keys front back (within most key) refl (apart most keys) good bad

length-fold : (done keys : List Key) → length (fold put_key done keys) ≡ length done + length keys
length-fold done [] = omega arith
length-fold done (key ∷ keys) = omega (arith, length-fold (put_key done key) keys, length-put_key done key)

-- the first keys are those of the best ranks, if there are enough of these
first-within : (k most : ℕ) (keys : List Key) → k ≤ length (filter (within most) keys) → first_keys k (filter (within most) keys) ≡ first_keys k keys
first-within k most keys enough =
    let good = fold put_key [] (filter (within most) keys) in
    let bad = fold put_key [] (filter (λ key. not (within most key)) keys) in
    let size : length good ≡ length (filter (within most) keys) = omega (arith, length-fold [] (filter (within most) keys)) in
    sym (ap (take k) (apart most keys [] [] (All-nil (λ (key : Key). within most key ≡ true)) (All-nil (λ (key : Key). within most key ≡ false)))
    ∙ take-append-le k good bad (omega (arith, size, enough)))

-- what was kept is kept again
again-step : (p : Key → Bool) (key : Key) (kept : List Key) (b : Bool) → p key ≡ b → filter p kept ≡ kept →
    filter p (cond b (key ∷ kept) kept) ≡ cond b (key ∷ kept) kept
again-step p key kept true e rest = ap (λ c. cond c (key ∷ filter p kept) (filter p kept)) e ∙ ap (λ ks. key ∷ ks) rest
again-step p key kept false e rest = rest

filter-again : (p : Key → Bool) (keys : List Key) → filter p (filter p keys) ≡ filter p keys
filter-again p [] = refl
filter-again p (key ∷ keys) = again-step p key (filter p keys) (p key) refl (filter-again p keys)

-- among more keys, only those of the best ranks are needed, if there are enough of these
pub first-best : (k most : ℕ) (before more : List Key) → k ≤ length (filter (within most) more) → first_keys k (before ++ filter (within most) more)
    ≡ first_keys k (before ++ more)
first-best k most before more enough =
    let p = within most in
    let whole : filter p (before ++ more) ≡ filter p before ++ filter p more = filter-append p before more in
    let part : filter p (before ++ filter p more) ≡ filter p before ++ filter p more =
    filter-append p before (filter p more) ∙ ap (λ ks. filter p before ++ ks) (filter-again p more) in
    let size = length-append (filter p before) (filter p more) in
    sym (first-within k most (before ++ filter p more) (omega (arith, enough, size, ap length part)))
    ∙ ap (first_keys k) (part ∙ sym whole)
    ∙ first-within k most (before ++ more) (omega (arith, enough, size, ap length whole))
