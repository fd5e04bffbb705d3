-- Any member of a phrase may lead: where it is doesn't depend on which one does.
use Rattle.std.proofs.Common.{◌≡◌, ℕ, zero, suc, ◌+◌, ◌<◌, ◌==◌, Bool, true, false, ◌&&◌, ◌||◌, List, [], ◌∷◌, map, length, get_or, refl, sym, ap, ap₂, ◌∙◌}
use Rattle.std.proofs.Common.{inl, inr, arith}
use Rattle.std.specs.List.{All, AllZip, list_all, list_any, remove}
use Rattle.std.proofs.lemmas.Bool.{and_parts, cases_Bool, eq-eqb, eqb-true, false≢true, or_right}
use Rattle.std.proofs.lemmas.List.Elements.{All-cons, All-head, All-tail}
use Rattle.std.specs.Cmp.Derive.{one_truth}
use Rattle.fts_segment.specs.ListIds.{documents_in}
use Rattle.fts_cursor.specs.declared.phrase.Member.{Member}
use Rattle.fts_cursor.specs.Phrases.{is_behind, phrase_at, positions_at}
use Rattle.fts_postings.specs.Sets.{has, in_all}

pub any_some : {X : Type 0} (p q : X → Bool) (xs : List X) → ((x : X) → p x ≡ true → q x ≡ true) → list_any p xs ≡ true → list_any q xs ≡ true
any_some p q [] imp h = absurd (false≢true h)
any_some p q (x ∷ xs) imp h = elim (cases_Bool (p x)) [
  | inl here ↦ ap (λ b. b || list_any q xs) (imp x here)
  | inr not_here ↦ or_right (q x) (list_any q xs) (any_some p q xs imp (ap (λ b. b || list_any p xs) (sym not_here) ∙ h))
]

pub all_each : {X : Type 0} (p q : X → Bool) (xs : List X) → ((x : X) → p x ≡ true → q x ≡ true) → list_all p xs ≡ true → list_all q xs ≡ true
all_each p q [] imp h = refl
all_each p q (x ∷ xs) imp h =
    let both = and_parts (p x) (list_all p xs) h in
    ap₂ (λ a b. a && b) (imp x both.0) (all_each p q xs imp both.1)

-- a number of a list that passes a test
record Passes (f : ℕ → Bool) (xs : List ℕ) : Type 0 where
  number : ℕ
  there : has xs number ≡ true
  passes : f number ≡ true

one_passes : (f : ℕ → Bool) (xs : List ℕ) → list_any f xs ≡ true → Passes f xs
one_passes f [] h = absurd (false≢true h)
one_passes f (x ∷ xs) h = elim (cases_Bool (f x)) [
  | inl here ↦ record { number = x; there = ap (λ b. b || has xs x) (eq-eqb x x refl); passes = here }
  | inr not_here ↦
      let rest = one_passes f xs (ap (λ b. b || list_any f xs) (sym not_here) ∙ h) in
      record { number = rest.number; there = or_right (x == rest.number) (has xs rest.number) rest.there; passes = rest.passes }
]

-- a test that one of them passes
passes_at : (f : ℕ → Bool) (xs : List ℕ) (n : ℕ) → has xs n ≡ true → f n ≡ true → list_any f xs ≡ true
passes_at f [] n h passes = absurd (false≢true h)
passes_at f (x ∷ xs) n h passes = elim (cases_Bool (x == n)) [
  | inl here ↦ ap (λ b. b || list_any f xs) (ap f (eqb-true x n here) ∙ passes)
  | inr not_here ↦ or_right (f x) (list_any f xs) (passes_at f xs n (ap (λ b. b || has xs n) (sym not_here) ∙ h) passes)
]

pub and_swap : (a b c : Bool) → (a && (b && c)) ≡ (b && (a && c))
and_swap true true c = refl
and_swap true false c = refl
and_swap false true c = refl
and_swap false false c = refl

-- a test of one and of the others is one of all
all-led : {X : Type 0} (f : X → Bool) (xs : List X) (k : ℕ) (e : X) → k < length xs → list_all f (get_or xs k e ∷ remove xs k) ≡ list_all f xs
all-led f [] k e inside = absurd (omega (arith, inside))
all-led f (x ∷ xs) zero e inside = refl
all-led f (x ∷ xs) (suc k) e inside =
    and_swap (f (get_or xs k e)) (f x) (list_all f (remove xs k)) ∙ ap (λ b. f x && b) (all-led f xs k e (omega (arith, inside)))

-- members of which each is one of the others stand where these do
stand_as_well : (d : ℕ) (m n : Member) (ms ns : List Member) → ((f : Member → Bool) → list_all f (m ∷ ms) ≡ true → list_all f (n ∷ ns) ≡ true) →
    phrase_at (m ∷ ms) d ≡ true → phrase_at (n ∷ ns) d ≡ true
stand_as_well d m n ms ns each h =
    let at = one_passes (λ p. list_all (is_behind m.offset p d) ms) (positions_at m d) h in
    let behind : Member → Bool = is_behind m.offset at.number d in
    let itself : behind m ≡ true =
    passes_at (λ q. q + m.offset == at.number + m.offset) (positions_at m d) at.number at.there (eq-eqb (at.number + m.offset) (at.number + m.offset)
    refl) in
    let all = each behind (ap₂ (λ a b. a && b) itself at.passes) in
    let both = and_parts (behind n) (list_all behind ns) all in
    let lead = one_passes (λ q. q + m.offset == at.number + n.offset) (positions_at n d) both.0 in
    let lead_is = eqb-true (lead.number + m.offset) (at.number + n.offset) lead.passes in
    passes_at (λ p. list_all (is_behind n.offset p d) ns) (positions_at n d) lead.number lead.there
    (all_each behind (is_behind n.offset lead.number d) ns (λ x there.
    any_some (λ q. q + m.offset == at.number + x.offset) (λ q. q + n.offset == lead.number + x.offset) (positions_at x d) (λ q is.
    eq-eqb (q + n.offset) (lead.number + x.offset) (let q_is = eqb-true (q + m.offset) (at.number + x.offset) is in omega (arith, q_is, lead_is))) there)
    both.1)

-- which member leads doesn't matter
pub phrase-led : (ms : List Member) (k : ℕ) (e : Member) (d : ℕ) → k < length ms → phrase_at (get_or ms k e ∷ remove ms k) d ≡ phrase_at ms d
phrase-led [] k e d inside = absurd (omega (arith, inside))
phrase-led (m ∷ ms) k e d inside =
    one_truth (phrase_at (get_or (m ∷ ms) k e ∷ remove (m ∷ ms) k) d) (phrase_at (m ∷ ms) d)
    (stand_as_well d (get_or (m ∷ ms) k e) m (remove (m ∷ ms) k) ms (λ f h. sym (all-led f (m ∷ ms) k e inside) ∙ h))
    (stand_as_well d m (get_or (m ∷ ms) k e) ms (remove (m ∷ ms) k) (λ f h. all-led f (m ∷ ms) k e inside ∙ h))

-- nor does it for the documents that all have
pub documents-led : (ms : List Member) (k : ℕ) (e : Member) (d : ℕ) → k < length ms → in_all (map (λ m. documents_in m.list) (get_or ms k e ∷ remove ms k)) d
    ≡ in_all (map (λ m. documents_in m.list) ms) d
documents-led [] k e d inside = absurd (omega (arith, inside))
documents-led (m ∷ ms) zero e d inside = refl
documents-led (m ∷ ms) (suc k) e d inside =
    and_swap (has (documents_in (get_or ms k e).list) d) (has (documents_in m.list) d) (in_all (map (λ n. documents_in n.list) (remove ms k)) d)
    ∙ ap (λ b. has (documents_in m.list) d && b) (documents-led ms k e d (omega (arith, inside)))

-- what all of some have, all but one have
pub All-removed : {X : Type 0} (P : X → Type 0) (xs : List X) (k : ℕ) → All P xs → All P (remove xs k)
All-removed P [] zero h = h
All-removed P [] (suc k) h = h
All-removed P (x ∷ xs) zero h = All-tail P x xs h
All-removed P (x ∷ xs) (suc k) h = All-cons P x (remove xs k) (All-head P x xs h) (All-removed P xs k (All-tail P x xs h))

-- pairs of which one is taken out
pub AllZip-removed : {X Y : Type 0} (R : X → Y → Type 0) (xs : List X) (ys : List Y) (k : ℕ) → AllZip R xs ys → AllZip R (remove xs k) (remove ys k)
AllZip-removed R [] [] zero h = h
AllZip-removed R [] [] (suc k) h = h
AllZip-removed R [] (y ∷ ys) k h = absurd h
AllZip-removed R (x ∷ xs) [] k h = absurd h
AllZip-removed R (x ∷ xs) (y ∷ ys) zero h = h.1
AllZip-removed R (x ∷ xs) (y ∷ ys) (suc k) h = (h.0, AllZip-removed R xs ys k h.1)

pub AllZip-at : {X Y : Type 0} (R : X → Y → Type 0) (xs : List X) (ys : List Y) (k : ℕ) (x : X) (y : Y) → k < length ys → AllZip R xs ys →
    R (get_or xs k x) (get_or ys k y)
AllZip-at R xs [] k x y inside h = absurd (omega (arith, inside))
AllZip-at R [] (b ∷ ys) k x y inside h = absurd h
AllZip-at R (a ∷ xs) (b ∷ ys) zero x y inside h = h.0
AllZip-at R (a ∷ xs) (b ∷ ys) (suc k) x y inside h = AllZip-at R xs ys k x y (omega (arith, inside)) h.1
