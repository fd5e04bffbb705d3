-- The members of several rising lists.
use Rattle.std.proofs.Common.{◌≡◌, ℕ, suc, ◌<◌, ◌≤◌, Option, Some, None, Bool, true, false, cond, ◌||◌, ◌==◌, List, [], ◌∷◌, ◌++◌, refl, sym, ap, subst, ◌∙◌}
use Rattle.std.proofs.Common.{inl, inr, arith}
use Rattle.std.specs.List.{slice_get}
use Rattle.std.specs.List.Sorted.{IsStrictlyIncreasing}
use Rattle.std.proofs.lemmas.Bool.{cases_lt, lt-ltb, le-ltb, le-leb, lt-leb, false≢true, or_from}
use Rattle.std.proofs.Math.Bool.{or-false, or-true, or_self_left, or_assoc}
use Rattle.fts_pack.specs.Documents.{Rises}
use Rattle.fts_postings.specs.Remaining.{at_least}
use Rattle.fts_postings.specs.Sets.{IsLeast, has, in_some, lesser_of, union, with_all, with_one}
use Rattle.fts_postings.proofs.SetLemmas.{below_is_other, is_itself, has-below, has-before_first, has-first, has-none}

below : (d x : ℕ) (xs : List ℕ) → d < x → with_one d (x ∷ xs) ≡ d ∷ (x ∷ xs)
below d x xs h = ap (λ b. cond b (d ∷ (x ∷ xs)) (cond (d == x) (x ∷ xs) (x ∷ with_one d xs))) (lt-ltb d x h)

pub same : (d x : ℕ) (xs : List ℕ) → d ≡ x → with_one d (x ∷ xs) ≡ x ∷ xs
same d x xs e =
    ap (λ b. cond b (d ∷ (x ∷ xs)) (cond (d == x) (x ∷ xs) (x ∷ with_one d xs))) (le-ltb d x (omega (arith, e)))
    ∙ ap (λ b. cond b (x ∷ xs) (x ∷ with_one d xs)) (ap (λ y. d == y) (sym e) ∙ is_itself d)

pub above : (d x : ℕ) (xs : List ℕ) → x < d → with_one d (x ∷ xs) ≡ x ∷ with_one d xs
above d x xs h =
    ap (λ b. cond b (d ∷ (x ∷ xs)) (cond (d == x) (x ∷ xs) (x ∷ with_one d xs))) (le-ltb d x (omega (arith, h)))
    ∙ ap (λ b. cond b (x ∷ xs) (x ∷ with_one d xs)) (below_is_other d x h)

pub stays : (t x : ℕ) (xs : List ℕ) → t ≤ x → at_least t (x ∷ xs) ≡ x ∷ at_least t xs
stays t x xs h = ap (λ b. cond b (x ∷ at_least t xs) (at_least t xs)) (le-leb t x h)

pub leaves : (t x : ℕ) (xs : List ℕ) → x < t → at_least t (x ∷ xs) ≡ at_least t xs
leaves t x xs h = ap (λ b. cond b (x ∷ at_least t xs) (at_least t xs)) (lt-leb t x h)

-- one of three ways
pub by_order : (P : Type 0) (d x : ℕ) → (d < x → P) → (d ≡ x → P) → (x < d → P) → P
by_order P d x lt eq gt = elim (cases_lt d x) [
  | inl h ↦ lt h
  | inr h ↦ elim (cases_lt x d) [ inl k ↦ gt k | inr k ↦ eq (omega (arith, h, k)) ]
]

Rises-with_one : (next d : ℕ) (xs : List ℕ) → next ≤ d → Rises next xs → Rises next (with_one d xs)
Rises-with_one next d [] le h = (le, tt)
Rises-with_one next d (x ∷ xs) le h = by_order (Rises next (with_one d (x ∷ xs))) d x
    (λ lt. subst (Rises next) (sym (below d x xs lt)) (le, (omega (arith, lt), h.1)))
    (λ eq. subst (Rises next) (sym (same d x xs eq)) h)
    (λ gt. subst (Rises next) (sym (above d x xs gt)) (h.0, Rises-with_one (suc x) d xs (omega (arith, gt)) h.1))

Rises-with_all : (xs ys : List ℕ) → Rises 0 ys → Rises 0 (with_all xs ys)
Rises-with_all [] ys h = h
Rises-with_all (x ∷ xs) ys h = Rises-with_one 0 x (with_all xs ys) (omega arith) (Rises-with_all xs ys h)

pub Rises-union : (lists : List (List ℕ)) → Rises 0 (union lists)
Rises-union [] = tt
Rises-union (xs ∷ lists) = Rises-with_all xs (union lists) (Rises-union lists)

or_swap : (a b c : Bool) → (a || (b || c)) ≡ (b || (a || c))
or_swap true true c = refl
or_swap true false c = refl
or_swap false b c = refl

pub has-with_one : (d : ℕ) (xs : List ℕ) (y : ℕ) → has (with_one d xs) y ≡ ((d == y) || has xs y)
has-with_one d [] y = refl
has-with_one d (x ∷ xs) y = by_order (has (with_one d (x ∷ xs)) y ≡ ((d == y) || has (x ∷ xs) y)) d x
    (λ lt. ap (λ zs. has zs y) (below d x xs lt))
    (λ eq. ap (λ zs. has zs y) (same d x xs eq) ∙ sym (ap (λ z. (z == y) || ((x == y) || has xs y)) eq ∙ or_self_left (x == y) (has xs y)))
    (λ gt. ap (λ zs. has zs y) (above d x xs gt) ∙ ap (λ b. (x == y) || b) (has-with_one d xs y) ∙ or_swap (x == y) (d == y) (has xs y))

has-with_all : (xs ys : List ℕ) (y : ℕ) → has (with_all xs ys) y ≡ (has xs y || has ys y)
has-with_all [] ys y = refl
has-with_all (x ∷ xs) ys y =
    has-with_one x (with_all xs ys) y ∙ ap (λ b. (x == y) || b) (has-with_all xs ys y) ∙ sym (or_assoc (x == y) (has xs y) (has ys y))

pub has-union : (lists : List (List ℕ)) (d : ℕ) → has (union lists) d ≡ in_some lists d
has-union [] d = refl
has-union (xs ∷ lists) d = has-with_all xs (union lists) d ∙ ap (λ b. has xs d || b) (has-union lists d)

at_least-with_one_in : (t d : ℕ) (xs : List ℕ) → t ≤ d → at_least t (with_one d xs) ≡ with_one d (at_least t xs)
at_least-with_one_in t d [] le = stays t d [] le
at_least-with_one_in t d (x ∷ xs) le = by_order (at_least t (with_one d (x ∷ xs)) ≡ with_one d (at_least t (x ∷ xs))) d x
    (λ lt.
    let up : t ≤ x = omega (arith, lt, le) in
    ap (at_least t) (below d x xs lt) ∙ stays t d (x ∷ xs) le ∙ ap (λ zs. d ∷ zs) (stays t x xs up)
    ∙ sym (ap (with_one d) (stays t x xs up) ∙ below d x (at_least t xs) lt))
    (λ eq.
    let up : t ≤ x = omega (arith, eq, le) in
    ap (at_least t) (same d x xs eq) ∙ stays t x xs up ∙ sym (ap (with_one d) (stays t x xs up) ∙ same d x (at_least t xs) eq))
    (λ gt. ap (at_least t) (above d x xs gt) ∙ elim (cases_lt x t) [
      | inl low ↦ leaves t x (with_one d xs) low ∙ at_least-with_one_in t d xs le ∙ sym (ap (with_one d) (leaves t x xs low))
      | inr up ↦
          stays t x (with_one d xs) up ∙ ap (λ zs. x ∷ zs) (at_least-with_one_in t d xs le)
          ∙ sym (ap (with_one d) (stays t x xs up) ∙ above d x (at_least t xs) gt)
    ])

at_least-with_one_out : (t d : ℕ) (xs : List ℕ) → d < t → at_least t (with_one d xs) ≡ at_least t xs
at_least-with_one_out t d [] out = leaves t d [] out
at_least-with_one_out t d (x ∷ xs) out = by_order (at_least t (with_one d (x ∷ xs)) ≡ at_least t (x ∷ xs)) d x
    (λ lt. ap (at_least t) (below d x xs lt) ∙ leaves t d (x ∷ xs) out)
    (λ eq. ap (at_least t) (same d x xs eq))
    (λ gt.
    let low : x < t = omega (arith, gt, out) in
    ap (at_least t) (above d x xs gt) ∙ leaves t x (with_one d xs) low ∙ at_least-with_one_out t d xs out ∙ sym (leaves t x xs low))

pub at_least-with_all : (t : ℕ) (xs ys : List ℕ) → at_least t (with_all xs ys) ≡ with_all (at_least t xs) (at_least t ys)
at_least-with_all t [] ys = refl
at_least-with_all t (x ∷ xs) ys = elim (cases_lt x t) [
  | inl low ↦
      at_least-with_one_out t x (with_all xs ys) low ∙ at_least-with_all t xs ys
      ∙ sym (ap (λ zs. with_all zs (at_least t ys)) (leaves t x xs low))
  | inr up ↦
      at_least-with_one_in t x (with_all xs ys) up ∙ ap (with_one x) (at_least-with_all t xs ys)
      ∙ sym (ap (λ zs. with_all zs (at_least t ys)) (stays t x xs up))
]

has_nothing : (xs : List ℕ) → ((d : ℕ) → has xs d ≡ false) → xs ≡ []
has_nothing [] h = refl
has_nothing (x ∷ xs) h = absurd (false≢true (sym (h x) ∙ ap (λ b. b || has xs x) (is_itself x)))

pub first_of : (xs : List ℕ) (first : ℕ) → Rises 0 xs → has xs first ≡ true → ((d : ℕ) → d < first → has xs d ≡ false) → Some first ≡ slice_get xs 0
first_of [] first h there lack = absurd (false≢true there)
first_of (x ∷ xs) first h there lack = by_order (Some first ≡ Some x) x first
    (λ lt. absurd (false≢true (sym (lack x lt) ∙ ap (λ b. b || has xs x) (is_itself x))))
    (λ eq. ap (λ y. Some y) (sym eq))
    (λ gt. absurd (false≢true (sym (has-below x (x ∷ xs) first (omega arith, h.1) gt) ∙ there)))

-- the first document of all lists is that of their union
pub union_first : (first : Option ℕ) (lists : List (List ℕ)) → IsLeast first lists → first ≡ slice_get (union lists) 0
union_first None lists h = sym (ap (λ xs. slice_get xs 0) (has_nothing (union lists) (λ d. has-union lists d ∙ h d)))
union_first (Some first) lists h =
    first_of (union lists) first (Rises-union lists) (has-union lists first ∙ h.0) (λ d low. has-union lists d ∙ h.1 d low)

pub in_some-append : (lists : List (List ℕ)) (xs : List ℕ) (d : ℕ) → in_some (lists ++ xs ∷ []) d ≡ (in_some lists d || has xs d)
in_some-append [] xs d = or-false (has xs d)
in_some-append (ys ∷ lists) xs d = ap (λ b. has ys d || b) (in_some-append lists xs d) ∙ sym (or_assoc (has ys d) (in_some lists d) (has xs d))

-- one list more, at its end
pub IsLeast-none : (least : Option ℕ) (lists : List (List ℕ)) (xs : List ℕ) → IsLeast least lists → None ≡ slice_get xs 0 → IsLeast least (lists ++ xs ∷ [])
IsLeast-none None lists xs h none = λ d. in_some-append lists xs d ∙ or_from (in_some lists d) (has xs d) (h d) (has-none xs d none)
IsLeast-none (Some first) lists xs h none = (
  in_some-append lists xs first ∙ ap (λ b. b || has xs first) h.0,
  λ d low. in_some-append lists xs d ∙ or_from (in_some lists d) (has xs d) (h.1 d low) (has-none xs d none),
)

-- one list more, with a document
pub IsLeast-some : (least : Option ℕ) (lists : List (List ℕ)) (xs : List ℕ) (first : ℕ) → IsLeast least lists → IsStrictlyIncreasing xs →
    Some first ≡ slice_get xs 0 → IsLeast (lesser_of least first) (lists ++ xs ∷ [])
IsLeast-some None lists xs first h rises is = (
  in_some-append lists xs first ∙ ap (λ b. in_some lists first || b) (has-first xs first is) ∙ or-true (in_some lists first),
  λ d low. in_some-append lists xs d ∙ or_from (in_some lists d) (has xs d) (h d) (has-before_first xs first d rises is low),
)
IsLeast-some (Some a) lists xs first h rises is = elim (cases_lt a first) [
  | inl lt ↦ subst (λ o. IsLeast o (lists ++ xs ∷ [])) (sym (ap (λ b. cond b (Some a) (Some first)) (lt-ltb a first lt))) (
    in_some-append lists xs a ∙ ap (λ b. b || has xs a) h.0,
    λ d low. in_some-append lists xs d ∙ or_from (in_some lists d) (has xs d) (h.1 d low) (has-before_first xs first d rises is (omega (arith, low, lt))),
  )
  | inr ge ↦ subst (λ o. IsLeast o (lists ++ xs ∷ [])) (sym (ap (λ b. cond b (Some a) (Some first)) (le-ltb a first ge))) (
    in_some-append lists xs first ∙ ap (λ b. in_some lists first || b) (has-first xs first is) ∙ or-true (in_some lists first),
    λ d low. in_some-append lists xs d ∙ or_from (in_some lists d) (has xs d) (h.1 d (omega (arith, low, ge))) (has-before_first xs first d rises is low),
  )
]

pub with_one-front : (x : ℕ) (xs : List ℕ) → Rises (suc x) xs → with_one x xs ≡ x ∷ xs
with_one-front x [] h = refl
with_one-front x (y ∷ ys) h = below x y ys (omega (arith, h.0))
