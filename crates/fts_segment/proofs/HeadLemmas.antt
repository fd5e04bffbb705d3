-- Heads of names, and the order that they decide.
use Rattle.std.proofs.Common.{◌≡◌, ◌+◌, ◌*◌, ◌^◌, ◌<◌, ◌≤◌, ℕ, zero, suc, List, [], ◌∷◌, ◌++◌, length, get_or, refl, sym, ap, ◌∙◌, arith}
use Rattle.std.proofs.Common.{Ordering, Less, Equal, false, inl, inr}
use Rattle.std.proofs.Common.{add-one, pow-suc}
use Rattle.std.specs.Str.{bytes_eq}
use Rattle.std.proofs.lemmas.Bool.{cases_Bool}
use Rattle.std.proofs.lemmas.Slice.Eq.{bytes_eq-Decides}
use Rattle.std.specs.Ordering.{nat_cmp, ordering_then}
use Rattle.std.specs.Cmp.Lexicographic.{slice_cmp}
use Rattle.std.proofs.Math.Nat.{one-le-pow, pow-le-pow_right, mul-le-mul_right}
use Rattle.std.proofs.lemmas.Cmp.{ranked, by_ranked}
use Rattle.std.proofs.lemmas.List.{map-append, get_or-map}
use Rattle.std.proofs.lemmas.List.Elements.{All-push}
use Rattle.fts_segment.specs.Heads.{head, AreBytes, AreHeads, IsHead}
use Rattle.fts_segment.proofs.FindLemmas.{turned}

pub head-below : (n : ℕ) (bytes : List ℕ) → AreBytes bytes → head n bytes < 256 ^ n
unfolding head
head-below zero bytes small = omega arith
head-below (suc n) [] small = omega (arith, one-le-pow (suc n) 256 (omega arith))
head-below (suc n) (byte ∷ bytes) small =
    let first : byte < 256 = small 0 in
    let most : byte * 256 ^ n ≤ 255 * 256 ^ n = mul-le-mul_right (256 ^ n) (omega arith) in
    omega (arith, most, head-below n bytes (λ i. small (suc i)), pow-suc 256 n)

-- the head of one more byte
head-suc : (n : ℕ) (bytes : List ℕ) → head (suc n) bytes ≡ head n bytes * 256 + get_or bytes n 0
unfolding head
head-suc zero [] = omega arith
head-suc zero (byte ∷ bytes) = omega arith
head-suc (suc n) [] = omega arith
head-suc (suc n) (byte ∷ bytes) = omega (arith, head-suc n bytes, ap (λ p. byte * p) (pow-suc 256 n))

pub head-more : (n : ℕ) (bytes : List ℕ) → head (n + 1) bytes ≡ head n bytes * 256 + get_or bytes n 0
head-more n bytes = rw add-one (head-suc n bytes)

-- the head of one more byte fits, if the head has fewer than eight
pub head-fits : (n : ℕ) (bytes : List ℕ) → AreBytes bytes → n < 8 → head n bytes * 256 + get_or bytes n 0 < 2 ^ 64
head-fits n bytes small few =
    omega (arith, head-suc n bytes, head-below (suc n) bytes small, pow-le-pow_right {n = 256} (omega arith) {i = suc n} {j = 8} (omega (arith, few)))

-- a name with a lower head comes before
pub lower : (n : ℕ) (xs ys : List ℕ) → AreBytes ys → head n xs < head n ys → slice_cmp nat_cmp xs ys ≡ Less
unfolding head
lower zero xs ys small less = absurd (omega (arith, less))
lower (suc n) [] [] small less = absurd (omega (arith, less))
lower (suc n) [] (y ∷ ys) small less = refl
lower (suc n) (x ∷ xs) [] small less = absurd (omega (arith, less))
lower (suc n) (x ∷ xs) (y ∷ ys) small less =
    by_ranked (x < y) (x ≡ y) (y < x) (nat_cmp x y) (ranked x y (nat_cmp x y) refl)
    (λ is before. ap (λ o. ordering_then o (slice_cmp nat_cmp xs ys)) is)
    (λ is same. ap (λ o. ordering_then o (slice_cmp nat_cmp xs ys)) is
    ∙ lower n xs ys (λ i. small (suc i)) (omega (arith, less, ap (λ b. b * 256 ^ n) same)))
    (λ is behind.
    let more : suc y * 256 ^ n ≤ x * 256 ^ n = mul-le-mul_right (256 ^ n) (omega arith) in
    absurd (omega (arith, less, more, head-below n ys (λ i. small (suc i)))))

-- heads that differ have the order of the names
pub order_of_heads : (n : ℕ) (xs ys : List ℕ) (o : Ordering) → AreBytes xs → AreBytes ys → o ≡ nat_cmp (head n xs) (head n ys) → (o ≡ Equal → ⊥) →
    o ≡ slice_cmp nat_cmp xs ys
order_of_heads n xs ys o these those is differ =
    by_ranked (head n xs < head n ys) (head n xs ≡ head n ys) (head n ys < head n xs) o (ranked (head n xs) (head n ys) o is)
    (λ less before. less ∙ sym (lower n xs ys those before))
    (λ equal same. absurd (differ equal))
    (λ greater behind. greater ∙ sym (turned ys xs Less (lower n ys xs these behind)))

-- names whose heads differ are different
pub heads-differ : (a b : ℕ) (xs ys : List ℕ) → IsHead a xs → IsHead b ys → (a ≡ b → ⊥) → bytes_eq xs ys ≡ false
heads-differ a b xs ys these those differ = elim (cases_Bool (bytes_eq xs ys)) [
  | inl same ↦ absurd (differ (these.is ∙ ap (head 8) ((bytes_eq-Decides xs ys).0 same) ∙ sym those.is))
  | inr other ↦ other
]

pub AreHeads-push : (heads : List ℕ) (names : List (List ℕ)) (name : List ℕ) → AreBytes name → AreHeads heads names →
    AreHeads (heads ++ head 8 name ∷ []) (names ++ name ∷ [])
AreHeads-push heads names name small h = record {
  are = ap (λ hs. hs ++ head 8 name ∷ []) h.are ∙ sym (map-append (head 8) names (name ∷ []));
  bytes = All-push AreBytes names name h.bytes small;
}

pub head_at : (heads : List ℕ) (names : List (List ℕ)) (i d : ℕ) → AreHeads heads names → i < length names → get_or heads i d ≡ head 8 (get_or names i [])
head_at heads names i d h within = ap (λ hs. get_or hs i d) h.are ∙ get_or-map (head 8) names i [] d within
