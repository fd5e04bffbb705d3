-- What rising lists have, and the numbers of a range that pass a test.
use Rattle.std.proofs.Common.{◌≡◌, ℕ, zero, suc, ◌+◌, ◌-◌, ◌<◌, ◌≤◌, ◌==◌, ◌&&◌, ◌||◌, Bool, true, false, cond, nat_le, nat_lt, Some, List, [], ◌∷◌, ◌++◌}
use Rattle.std.proofs.Common.{All, length, get_or, take, drop, refl, sym, ap, ap₂, subst, ◌∙◌, inl, inr, arith}
use Rattle.std.specs.List.{filter, range_with_len, slice_get}
use Rattle.std.specs.Prelude.{count_by}
use Rattle.std.proofs.Math.Bool.{and-false, or-true}
use Rattle.std.proofs.lemmas.Bool.{cases_Bool, cases_lt, eqb-true, false≢true, le-leb, le-ltb, lt-leb, lt-ltb}
use Rattle.std.proofs.lemmas.List.{append-nil, drop_all, drop_more, get_or-take, get_or_append_left, length-append, take-append-le}
use Rattle.std.proofs.lemmas.List.Sums.{length-filter}
use Rattle.fts_pack.specs.Documents.{Rises}
use Rattle.fts_postings.specs.Remaining.{at_least}
use Rattle.fts_postings.specs.Sets.{has}
use Rattle.fts_postings.specs.Takes.{Takes}
use Rattle.fts_postings.specs.Windows.{passing}
use Rattle.fts_postings.proofs.CostLemmas.{length-filter-le, scan_cost}
use Rattle.fts_postings.proofs.PassingLemmas.{Rises-passing, passing-append}
use Rattle.fts_postings.proofs.RemainingLemmas.{Rises-get_or, at_least_all, at_least_place}
use Rattle.fts_postings.proofs.SetLemmas.{Rises-filter, Rises-lower, above_is_other, filter-none, has-at_least, has-below, is_itself}
use Rattle.fts_postings.proofs.UnionLemmas.{by_order, first_of}
use Rattle.fts_postings.proofs.WindowLemmas.{nothing, passing-same}

-- a filter keeps the members that pass
pub has-filter : (p : ℕ → Bool) (xs : List ℕ) (d : ℕ) → has (filter p xs) d ≡ (has xs d && p d)
has-filter p [] d = refl
has-filter p (x ∷ xs) d =
    let rest = has-filter p xs d in
    elim (cases_Bool (x == d)) [
      | inl here ↦
          let same : x ≡ d = eqb-true x d here in
          let all : (has (x ∷ xs) d && p d) ≡ p d = ap (λ b. (b || has xs d) && p d) here in
          elim (cases_Bool (p d)) [
            | inl passes ↦
                ap (λ b. has (cond b (x ∷ filter p xs) (filter p xs)) d) (ap p same ∙ passes) ∙ ap (λ b. b || has (filter p xs) d) here ∙ sym (all ∙ passes)
            | inr fails ↦
                ap (λ b. has (cond b (x ∷ filter p xs) (filter p xs)) d) (ap p same ∙ fails) ∙ rest ∙ ap (λ b. has xs d && b) fails ∙ and-false (has xs d)
                ∙ sym (all ∙ fails)
          ]
      | inr other ↦
          let all : (has xs d && p d) ≡ (has (x ∷ xs) d && p d) = ap (λ b. (b || has xs d) && p d) (sym other) in
          elim (p x) as (λ b. has (cond b (x ∷ filter p xs) (filter p xs)) d ≡ (has (x ∷ xs) d && p d)) [
            | true ↦ ap (λ b. b || has (filter p xs) d) other ∙ rest ∙ all
            | false ↦ rest ∙ all
          ]
    ]

behind : (x d : ℕ) (xs ys : List ℕ) → Rises (suc x) xs → Rises (suc x) ys → (has (x ∷ xs) d ≡ has (x ∷ ys) d) → has xs d ≡ has ys d
behind x d xs ys up over same = elim (cases_lt x d) [
  | inl above ↦
      let other = above_is_other x d above in
      ap (λ b. b || has xs d) (sym other) ∙ same ∙ ap (λ b. b || has ys d) other
  | inr low ↦ has-below (suc x) xs d up (omega (arith, low)) ∙ sym (has-below (suc x) ys d over (omega (arith, low)))
]

-- rising lists of the same members are the same
pub same_members : (next : ℕ) (xs ys : List ℕ) → Rises next xs → Rises next ys → ((d : ℕ) → has xs d ≡ has ys d) → xs ≡ ys
same_members next [] [] h k same = refl
same_members next [] (y ∷ ys) h k same = absurd (false≢true (same y ∙ ap (λ b. b || has ys y) (is_itself y)))
same_members next (x ∷ xs) [] h k same = absurd (false≢true (sym (same x) ∙ ap (λ b. b || has xs x) (is_itself x)))
same_members next (x ∷ xs) (y ∷ ys) h k same = by_order ((x ∷ xs) ≡ (y ∷ ys)) x y
    (λ lt. absurd (false≢true (sym (has-below y (y ∷ ys) x (omega arith, k.1) lt) ∙ sym (same x) ∙ ap (λ b. b || has xs x) (is_itself x))))
    (λ eq.
    let over : Rises (suc x) ys = subst (λ n. Rises (suc n) ys) (sym eq) k.1 in
    ap (λ zs. x ∷ zs) (same_members (suc x) xs ys h.1 over (λ d. behind x d xs ys h.1 over (same d ∙ ap (λ z. (z == d) || has ys d) (sym eq))))
    ∙ ap (λ z. z ∷ ys) eq)
    (λ gt. absurd (false≢true (sym (has-below x (x ∷ xs) y (omega arith, h.1) gt) ∙ same y ∙ ap (λ b. b || has ys y) (is_itself y))))

pub has-range : (a n d : ℕ) → a ≤ d → d < a + n → has (range_with_len a n) d ≡ true
has-range a zero d low high = absurd (omega (arith, low, high))
has-range a (suc n) d low high = elim (cases_lt a d) [
  | inl above ↦ ap (λ b. b || has (range_with_len (a + 1) n) d) (above_is_other a d above) ∙ has-range (a + 1) n d (omega (arith, above)) (omega (arith, high))
  | inr here ↦ let same : a ≡ d = omega (arith, low, here) in ap (λ y. (y == d) || has (range_with_len (a + 1) n) d) same
      ∙ ap (λ b. b || has (range_with_len (a + 1) n) d) (is_itself d)
]

pub past-range : (a n d : ℕ) → a + n ≤ d → has (range_with_len a n) d ≡ false
past-range a zero d past = refl
past-range a (suc n) d past = ap (λ b. b || has (range_with_len (a + 1) n) d) (above_is_other a d (omega (arith, past)))
    ∙ past-range (a + 1) n d (omega (arith, past))

pub has-all_below : (n d : ℕ) → has (range_with_len 0 n) d ≡ nat_lt d n
has-all_below n d = elim (cases_lt d n) [
  | inl inside ↦ has-range 0 n d (omega arith) (omega (arith, inside)) ∙ sym (lt-ltb d n inside)
  | inr past ↦ past-range 0 n d (omega (arith, past)) ∙ sym (le-ltb d n past)
]

-- a list of all that pass has each
pub has-passing : (test : ℕ → Bool) (n d : ℕ) → (n ≤ d → test d ≡ false) → has (passing test 0 n) d ≡ test d
has-passing test n d none =
    has-filter test (range_with_len 0 n) d ∙ elim (cases_lt d n) [
      | inl inside ↦ ap (λ b. b && test d) (has-range 0 n d (omega arith) (omega (arith, inside)))
      | inr past ↦ ap (λ b. b && test d) (past-range 0 n d (omega (arith, past))) ∙ sym (none past)
    ]

-- a list has what passes, if it has nothing else
pub passing-all : (p : ℕ → Bool) (a n : ℕ) (xs : List ℕ) → Rises 0 xs → ((d : ℕ) → has xs d ≡ p d) → ((d : ℕ) → d < a → p d ≡ false) →
    ((d : ℕ) → a + n ≤ d → p d ≡ false) → passing p a n ≡ xs
passing-all p a n xs up is before behind_it =
    same_members 0 (passing p a n) xs (Rises-lower a 0 (passing p a n) (omega arith) (Rises-passing p a n)) up
    (λ d. has-filter p (range_with_len a n) d ∙ elim (cases_lt d a) [
      | inl low ↦ ap (λ b. has (range_with_len a n) d && b) (before d low) ∙ and-false (has (range_with_len a n) d) ∙ sym (is d ∙ before d low)
      | inr high ↦ elim (cases_lt d (a + n)) [
        | inl inside ↦ ap (λ b. b && p d) (has-range a n d high inside) ∙ sym (is d)
        | inr past ↦ ap (λ b. has (range_with_len a n) d && b) (behind_it d past) ∙ and-false (has (range_with_len a n) d) ∙ sym (is d ∙ behind_it d past)
      ]
    ])

-- all pass
pub every-passes : (p : ℕ → Bool) (a n : ℕ) → ((d : ℕ) → d < a + n → p d ≡ true) → passing p a n ≡ range_with_len a n
every-passes p a zero h = refl
every-passes p a (suc n) h = ap₂ (λ b ys. cond b (a ∷ ys) ys) (h a (omega arith)) (every-passes p (a + 1) n (λ d low. h d (omega (arith, low))))

pub Rises-range : (a n : ℕ) → Rises a (range_with_len a n)
Rises-range a n = subst (Rises a) (every-passes (λ d. true) a n (λ d low. refl)) (Rises-passing (λ d. true) a n)

pub filter-agree : (p q : ℕ → Bool) (xs : List ℕ) → ((d : ℕ) → p d ≡ q d) → filter p xs ≡ filter q xs
filter-agree p q [] same = refl
filter-agree p q (x ∷ xs) same = ap₂ (λ b ys. cond b (x ∷ ys) ys) (same x) (filter-agree p q xs same)

-- tests that agree on a list
pub filter-within : (p q : ℕ → Bool) (xs : List ℕ) → All (λ d. p d ≡ q d) xs → filter p xs ≡ filter q xs
filter-within p q [] same = refl
filter-within p q (x ∷ xs) same =
    ap₂ (λ b ys. cond b (x ∷ ys) ys) (same 0 0 (omega arith)) (filter-within p q xs (λ k d inside. same (suc k) d (omega (arith, inside))))

pub filter-every : (xs : List ℕ) → filter (λ d. true) xs ≡ xs
filter-every [] = refl
filter-every (x ∷ xs) = ap (λ ys. x ∷ ys) (filter-every xs)

-- two filters are one
filter-step : (p : ℕ → Bool) (x : ℕ) (xs ys : List ℕ) (b : Bool) → filter p xs ≡ ys → filter p (cond b (x ∷ xs) xs) ≡ cond (b && p x) (x ∷ ys) ys
filter-step p x xs ys true h = ap (λ zs. cond (p x) (x ∷ zs) zs) h
filter-step p x xs ys false h = h

pub filter-and : (p q : ℕ → Bool) (xs : List ℕ) → filter p (filter q xs) ≡ filter (λ d. q d && p d) xs
filter-and p q [] = refl
filter-and p q (x ∷ xs) = filter-step p x (filter q xs) (filter (λ d. q d && p d) xs) (q x) (filter-and p q xs)

-- one test more, and maybe fewer documents
pub passing-kept : (p q r : ℕ → Bool) (n m : ℕ) → m ≤ n → ((d : ℕ) → r d ≡ (q d && p d)) → ((d : ℕ) → m ≤ d → r d ≡ false) →
    passing r 0 m ≡ filter p (passing q 0 n)
passing-kept p q r n m few is past =
    let k = n - m in
    let whole : m + k ≡ n = omega (arith, few) in
    let none : passing r (0 + m) k ≡ [] = nothing r (0 + m) k (λ d up down. past d (omega (arith, up))) in
    sym (
    filter-and p q (range_with_len 0 n) ∙ passing-same (λ d. q d && p d) r 0 n (λ d up down. sym (is d))
    ∙ ap (passing r 0) (sym whole) ∙ passing-append r 0 m k ∙ ap (λ ys. passing r 0 m ++ ys) none ∙ append-nil (passing r 0 m)
    )

swapped : (a b : Bool) → (a && b) ≡ (b && a)
swapped true true = refl
swapped true false = refl
swapped false true = refl
swapped false false = refl

-- what is left of a list from a document on
pub has-from : (t : ℕ) (xs : List ℕ) (d : ℕ) → has (at_least t xs) d ≡ (has xs d && nat_le t d)
has-from t xs d = has-filter (λ x. nat_le t x) xs d

pub Rises-from : (t : ℕ) (xs : List ℕ) → Rises 0 xs → Rises 0 (at_least t xs)
Rises-from t xs up = Rises-filter 0 (λ x. nat_le t x) xs up

-- the first of them, and the others
pub count-more : (p : ℕ → Bool) (a m end : ℕ) → ((d : ℕ) → end ≤ d → p d ≡ false) →
    length (passing p a (end - a)) ≡ length (passing p a m) + length (passing p (a + m) (end - (a + m)))
count-more p a m end past = elim (cases_lt (end - a) m) [
  | inl short ↦ (
      let none : end - (a + m) ≡ 0 = omega (arith, short) in
      let k = m - (end - a) in
      let whole : m ≡ end - a + k = omega (arith, short) in
      let over : passing p (a + (end - a)) k ≡ [] = nothing p (a + (end - a)) k (λ d up down. past d (omega (arith, up))) in
      let all : passing p a m ≡ passing p a (end - a) =
      ap (passing p a) whole ∙ passing-append p a (end - a) k ∙ ap (λ ys. passing p a (end - a) ++ ys) over ∙ append-nil (passing p a (end - a)) in
      let rest = ap (λ n. length (passing p (a + m) n)) none in
      omega (arith, ap length all, rest)
      )
  | inr long ↦ (
      let e : end - a ≡ m + (end - (a + m)) = omega (arith, long) in
      ap (λ n. length (passing p a n)) e ∙ ap length (passing-append p a m (end - (a + m)))
      ∙ length-append (passing p a m) (passing p (a + m) (end - (a + m)))
      )
]

pub length-passing : (p : ℕ → Bool) (a n : ℕ) → length (passing p a n) ≤ n
length-passing p a n = scan_cost p a n 0

pub none_there : (from : ℕ) (test : ℕ → Bool) (d : ℕ) → test d ≡ false → (nat_le from d && test d) ≡ false
none_there from test d none = ap (λ b. nat_le from d && b) none ∙ and-false (nat_le from d)

-- what is left from a document on, by a range that begins no later and ends behind all
pub passing-left : (xs : List ℕ) (from start end : ℕ) → Rises 0 xs → start ≤ from → ((d : ℕ) → end ≤ d → has xs d ≡ false) →
    passing (λ d. nat_le from d && has xs d) start (end - start) ≡ at_least from xs
passing-left xs from start end up low past =
    passing-all (λ d. nat_le from d && has xs d) start (end - start) (at_least from xs) (Rises-from from xs up)
    (λ d. has-from from xs d ∙ swapped (has xs d) (nat_le from d))
    (λ d below. ap (λ b. b && has xs d) (lt-leb from d (omega (arith, below, low))))
    (λ d high. elim (cases_lt d end) [
      | inl inside ↦ ap (λ b. b && has xs d) (lt-leb from d (omega (arith, inside, high, low)))
      | inr over ↦ none_there from (has xs) d (past d over)
    ])

-- what is left from a document on, by what the list has
pub left-here : (xs : List ℕ) (t end : ℕ) → Rises 0 xs → ((d : ℕ) → end ≤ d → has xs d ≡ false) → passing (has xs) t (end - t) ≡ at_least t xs
left-here xs t end up past =
    passing-same (has xs) (λ d. nat_le t d && has xs d) t (end - t) (λ d high low. sym (ap (λ b. b && has xs d) (le-leb t d high)))
    ∙ passing-left xs t t end up (omega arith) past

-- a row of it is counted, and what is left after that
pub left-row : (xs : List ℕ) (from t m end : ℕ) → Rises 0 xs → ((d : ℕ) → end ≤ d → has xs d ≡ false) → t ≤ from → from ≤ t + m →
    length (at_least from xs) ≡ length (passing (λ d. nat_le from d && has xs d) t m) + length (at_least (t + m) xs)
left-row xs from t m end up past low high =
    let p : ℕ → Bool = λ d. nat_le from d && has xs d in
    let rest : passing p (t + m) (end - (t + m)) ≡ at_least (t + m) xs =
    passing-same p (has xs) (t + m) (end - (t + m)) (λ d over down. ap (λ b. b && has xs d) (le-leb from d (omega (arith, over, high))))
    ∙ left-here xs (t + m) end up past in
    ap length (sym (passing-left xs from t end up low past)) ∙ count-more p t m end (λ d far. none_there from (has xs) d (past d far))
    ∙ ap (λ ys. length (passing p t m) + length ys) rest

-- no more are left than there are numbers
pub length-from : (xs : List ℕ) (docs t : ℕ) → Rises 0 xs → ((d : ℕ) → docs ≤ d → has xs d ≡ false) → length (at_least t xs) ≤ docs - t
length-from xs docs t up past = omega (arith, ap length (left-here xs t docs up past), length-passing (has xs) t (docs - t))

-- nothing lies between
pub at_least-same : (xs : List ℕ) (a b : ℕ) → Rises 0 xs → a ≤ b → ((d : ℕ) → a ≤ d → d < b → has xs d ≡ false) → at_least b xs ≡ at_least a xs
at_least-same xs a b up order none =
    same_members 0 (at_least b xs) (at_least a xs) (Rises-from b xs up) (Rises-from a xs up)
    (λ d. has-from b xs d ∙ elim (cases_lt d b) [
      | inl low ↦ ap (λ x. has xs d && x) (lt-leb b d low) ∙ and-false (has xs d) ∙ sym (has-from a xs d ∙ elim (cases_lt d a) [
        | inl below ↦ ap (λ x. has xs d && x) (lt-leb a d below) ∙ and-false (has xs d)
        | inr up_to ↦ ap (λ x. x && nat_le a d) (none d up_to low)
      ])
      | inr high ↦ ap (λ x. has xs d && x) (le-leb b d high ∙ sym (le-leb a d (omega (arith, order, high)))) ∙ sym (has-from a xs d)
    ])

pub at_least-at_least_of : (xs : List ℕ) (a b : ℕ) → a ≤ b → at_least b (at_least a xs) ≡ at_least b xs
at_least-at_least_of xs a b order = filter-and (λ d. nat_le b d) (λ d. nat_le a d) xs ∙ filter-agree (λ d. nat_le a d && nat_le b d) (λ d. nat_le b d) xs
    (λ d. elim (cases_lt d b) [
      | inl low ↦ ap (λ x. nat_le a d && x) (lt-leb b d low) ∙ and-false (nat_le a d) ∙ sym (lt-leb b d low)
      | inr high ↦ ap (λ x. x && nat_le b d) (le-leb a d (omega (arith, order, high)))
    ])

pub nothing_left : (xs : List ℕ) (t : ℕ) → Rises 0 xs → ((d : ℕ) → t ≤ d → has xs d ≡ false) → at_least t xs ≡ []
nothing_left xs t up none = same_members 0 (at_least t xs) [] (Rises-from t xs up) tt
    (λ d. has-from t xs d ∙ elim (cases_lt d t) [
      | inl low ↦ ap (λ x. has xs d && x) (lt-leb t d low) ∙ and-false (has xs d)
      | inr high ↦ ap (λ x. x && nat_le t d) (none d high)
    ])

pub at_least-lower : (xs : List ℕ) (a b : ℕ) → b ≤ a → at_least b (at_least a xs) ≡ at_least a xs
at_least-lower xs a b order = filter-and (λ d. nat_le b d) (λ d. nat_le a d) xs ∙ filter-agree (λ d. nat_le a d && nat_le b d) (λ d. nat_le a d) xs
    (λ d. elim (cases_lt d a) [
      | inl low ↦ ap (λ x. x && nat_le b d) (lt-leb a d low) ∙ sym (lt-leb a d low)
      | inr high ↦ ap₂ (λ x y. x && y) (le-leb a d high) (le-leb b d (omega (arith, order, high))) ∙ sym (le-leb a d high)
    ])

-- a filter that keeps as many keeps all
kept_one : (p : ℕ → Bool) (x : ℕ) (xs : List ℕ) (b : Bool) → length (filter p xs) ≤ length xs → length (x ∷ xs) ≤ length (cond b (x ∷ filter p xs) (filter p xs)) →
    (b ≡ true) × (length xs ≤ length (filter p xs))
kept_one p x xs true few many = (refl, omega (arith, many))
kept_one p x xs false few many = absurd (omega (arith, few, many))

pub filter-full : (p : ℕ → Bool) (xs : List ℕ) → length xs ≤ length (filter p xs) → filter p xs ≡ xs
filter-full p [] many = refl
filter-full p (x ∷ xs) many =
    let h = kept_one p x xs (p x) (length-filter-le p xs) many in
    ap (λ b. cond b (x ∷ filter p xs) (filter p xs)) h.0 ∙ ap (λ ys. x ∷ ys) (filter-full p xs h.1)

-- a document that a list has is the first from there on
pub first_from : (xs : List ℕ) (at : ℕ) → Rises 0 xs → has xs at ≡ true → Some at ≡ slice_get (at_least at xs) 0
first_from xs at up here = first_of (at_least at xs) at (Rises-from at xs up) (has-at_least at xs at (omega arith) ∙ here)
    (λ d low. has-from at xs d ∙ ap (λ x. has xs d && x) (lt-leb at d low) ∙ and-false (has xs d))

Rises-step : (next : ℕ) (xs : List ℕ) (k : ℕ) → Rises next xs → 0 < k → k < length xs → get_or xs (k - 1) 0 < get_or xs k 0
Rises-step next [] k up some inside = absurd (omega (arith, inside))
Rises-step next (x ∷ xs) zero up some inside = absurd (omega (arith, some))
Rises-step next (x ∷ xs) (suc zero) up some inside = Rises-get_or (suc x) xs 0 up.1 (omega (arith, inside))
Rises-step next (x ∷ xs) (suc (suc k)) up some inside =
    let back : suc (suc k) - 1 ≡ suc k = omega arith in
    let down : suc k - 1 ≡ k = omega arith in
    rw back (rw down at (Rises-step (suc x) xs (suc k) up.1 (omega arith) (omega (arith, inside))))

-- what is left of a rising list behind some
pub drop_from : (next : ℕ) (xs : List ℕ) (k t : ℕ) → Rises next xs → 0 < k → k ≤ length xs → t ≡ get_or xs (k - 1) 0 + 1 → at_least t xs ≡ drop k xs
drop_from next xs k t up some within is =
    at_least_place t next xs k up within (λ s. omega (arith, is)) (λ inside. omega (arith, is, Rises-step next xs k up some inside))

turned : (a b c : Bool) → ((a && b) && c) ≡ (c && (b && a))
turned true true true = refl
turned true true false = refl
turned true false true = refl
turned true false false = refl
turned false true true = refl
turned false true false = refl
turned false false true = refl
turned false false false = refl

has_some : (xs : List ℕ) (d : ℕ) → has xs d ≡ true → 0 < length xs
has_some [] d h = absurd (false≢true h)
has_some (x ∷ xs) d h = omega arith

has_member : (xs : List ℕ) (k : ℕ) → k < length xs → has xs (get_or xs k 0) ≡ true
has_member [] k inside = absurd (omega (arith, inside))
has_member (x ∷ xs) zero inside = ap (λ b. b || has xs x) (is_itself x)
has_member (x ∷ xs) (suc k) inside = ap (λ b. (x == get_or xs k 0) || b) (has_member xs k (omega (arith, inside))) ∙ or-true (x == get_or xs k 0)

pub has-low : (t : ℕ) (xs : List ℕ) (d : ℕ) → has (at_least t xs) d ≡ true → t ≤ d
has-low t xs d h = elim (cases_lt d t) [
  | inl low ↦ absurd (false≢true (sym (has-from t xs d ∙ ap (λ b. has xs d && b) (lt-leb t d low) ∙ and-false (has xs d)) ∙ h))
  | inr high ↦ high
]

-- a rising list is cut at a number
pub below_cut : (t next : ℕ) (xs : List ℕ) → Rises next xs → xs ≡ filter (λ d. nat_lt d t) xs ++ at_least t xs
below_cut t next [] up = refl
below_cut t next (x ∷ xs) up = elim (cases_lt x t) [
  | inl low ↦
      ap (λ ys. x ∷ ys) (below_cut t (suc x) xs up.1)
      ∙ sym (ap₂ (λ b c. cond b (x ∷ filter (λ d. nat_lt d t) xs) (filter (λ d. nat_lt d t) xs) ++ cond c (x ∷ at_least t xs) (at_least t xs)) (lt-ltb x t low)
      (lt-leb t x low))
  | inr high ↦
      let here : Rises x (x ∷ xs) = (omega arith, up.1) in
      sym (ap₂ (λ ys zs. ys ++ zs) (filter-none x (λ d. nat_lt d t) (x ∷ xs) here (λ d ahead. le-ltb d t (omega (arith, high, ahead))))
      (at_least_all t x (x ∷ xs) here high))
]

-- some of what is left are taken, where a list has those of it below a number
module _ (xs front out : List ℕ) (at end count next : ℕ) (up : Rises 0 xs) (rises : Rises 0 front)
    (is : (d : ℕ) → has front d ≡ (nat_lt d end && (nat_le at d && has xs d))) (here : has xs at ≡ true) (inside : at < end) where
  abbrev pub whole : List ℕ
  whole = at_least at xs

  front_is : whole ≡ front ++ at_least end whole
  front_is = below_cut end 0 whole (Rises-from at xs up) ∙ ap (λ ys. ys ++ at_least end whole)
      (same_members 0 (filter (λ d. nat_lt d end) whole) front (Rises-filter 0 (λ d. nat_lt d end) whole (Rises-from at xs up)) rises
      (λ d. has-filter (λ d. nat_lt d end) whole d ∙ ap (λ b. b && nat_lt d end) (has-from at xs d) ∙ turned (has xs d) (nat_le at d) (nat_lt d end) ∙ sym (is d)))

  pub some_front : 0 < length front
  some_front = has_some front at (is at ∙ ap₂ (λ a b. a && b) (lt-ltb at end inside) (ap₂ (λ a b. a && b) (le-leb at at (omega arith)) here))

  module _ (left : List ℕ) (takes : Takes front left out count) (next_is : next ≡ get_or out (count - 1) 0 + 1) where
    some_taken : 0 < count
    some_taken = takes.some some_front

    last_is : get_or out (count - 1) 0 ≡ get_or front (count - 1) 0
    last_is = sym (get_or-take count out (count - 1) 0 (omega (arith, some_taken))) ∙ ap (λ ys. get_or ys (count - 1) 0) takes.taken
        ∙ get_or-take count front (count - 1) 0 (omega (arith, some_taken))

    fits : count ≤ length whole
    fits = omega (arith, takes.within, ap length front_is, length-append front (at_least end whole))

    last_of : get_or whole (count - 1) 0 ≡ get_or front (count - 1) 0
    last_of = ap (λ ys. get_or ys (count - 1) 0) front_is ∙ get_or_append_left front (at_least end whole) 0 (count - 1) (omega (arith, some_taken, takes.within))

    rest_is : at_least next whole ≡ drop count whole
    rest_is = drop_from 0 whole count next (Rises-from at xs up) some_taken fits (omega (arith, next_is, last_is, last_of))

    past_at : at ≤ next
    past_at = omega (arith, next_is, last_is, last_of, has-low at xs (get_or whole (count - 1) 0) (has_member whole (count - 1) (omega (arith, some_taken, fits))))

    pub takes_front : Takes whole (at_least next xs) out count
    takes_front = record {
      some = λ _. some_taken;
      few = takes.few;
      within = fits;
      taken = takes.taken ∙ sym (ap (take count) front_is ∙ take-append-le count front (at_least end whole) takes.within);
      left_is = sym (at_least-at_least_of xs at next past_at) ∙ rest_is;
    }

    pub front_left : (d : ℕ) → next ≤ d → d < end → has left d ≡ has xs d
    front_left d high low =
        let rest : at_least next front ≡ drop count front = drop_from 0 front count next rises some_taken takes.within (omega (arith, next_is, last_is)) in
        ap (λ ys. has ys d) (takes.left_is ∙ sym rest) ∙ has-at_least next front d high ∙ is d
        ∙ ap₂ (λ a b. a && (b && has xs d)) (lt-ltb d end low) (le-leb at d (omega (arith, high, past_at)))

-- one document more
longer : {X Y : Type 0} (b : Bool) (x : X) (y : Y) (xs : List X) (ys : List Y) → length xs ≡ length ys →
    length (cond b (x ∷ xs) xs) ≡ length (cond b (y ∷ ys) ys)
longer true x y xs ys same = ap suc same
longer false x y xs ys same = same

-- those from one on
pub count-from : {X : Type 0} (none : X) (p : X → Bool) (column : List X) (from n : ℕ) → from + n ≡ length column →
    length (passing (λ doc. p (get_or column doc none)) from n) ≡ length (filter p (drop from column))
count-from none p column from zero end = ap (λ xs. length (filter p xs)) (sym (drop_all from column (omega (arith, end))))
count-from none p column from (suc n) end =
    longer (p (get_or column from none)) from (get_or column from none) (passing (λ doc. p (get_or column doc none)) (from + 1) n)
    (filter p (drop (from + 1) column)) (count-from none p column (from + 1) n (omega (arith, end)))
    ∙ ap (λ xs. length (filter p xs)) (sym (drop_more column from none (omega (arith, end))))

-- as many have their bit set as bits are set
pub count-set : (live : List Bool) → count_by (λ bit. bit) live ≡ length (filter (λ doc. get_or live doc false) (range_with_len 0 (length live)))
count-set live = sym (count-from false (λ (bit : Bool). bit) live 0 (length live) (omega arith) ∙ length-filter (λ (bit : Bool). bit) live)
