-- Bits of joined words, and words changed one after the other.
use Rattle.std.proofs.Common.{◌≡◌, ◌≢◌, ℕ, zero, suc, ◌+◌, ◌-◌, ◌*◌, ◌^◌, ◌<◌, ◌≤◌, Bool, ◌||◌, ◌&&◌, ◌==◌, not, List, length, get_or, max, min, set}
use Rattle.std.proofs.Common.{bit_and, bit_or, refl, sym, ap, ap₂, ◌∙◌, inl, inr, arith}
use Rattle.std.specs.Int.{bit_at, bit_not, w64}
use Rattle.std.proofs.lemmas.Bool.{cases_lt}
use Rattle.std.proofs.lemmas.List.{get_or-set_other, length-set}
use Rattle.std.proofs.lemmas.Grind.{get_or-set_at}
use Rattle.std.proofs.lemmas.Nat.Bits.{bit_at_and, bit_at-lt, bit_at_not, bit_at_or}
use Rattle.fts_pack.specs.bits.Changes.{AreChanged}

or_one : (a b : ℕ) → a < 2 → b < 2 → (max a b == 1) ≡ ((a == 1) || (b == 1))
or_one zero zero low high = refl
or_one zero (suc zero) low high = refl
or_one (suc zero) zero low high = refl
or_one (suc zero) (suc zero) low high = refl
or_one (suc (suc a)) b low high = absurd (omega (arith, low))
or_one a (suc (suc b)) low high = absurd (omega (arith, high))

and_one : (a b : ℕ) → a < 2 → b < 2 → (min a b == 1) ≡ ((a == 1) && (b == 1))
and_one zero zero low high = refl
and_one zero (suc zero) low high = refl
and_one (suc zero) zero low high = refl
and_one (suc zero) (suc zero) low high = refl
and_one (suc (suc a)) b low high = absurd (omega (arith, low))
and_one a (suc (suc b)) low high = absurd (omega (arith, high))

not_one : (a : ℕ) → a < 2 → (1 - a == 1) ≡ not (a == 1)
not_one zero low = refl
not_one (suc zero) low = refl
not_one (suc (suc a)) low = absurd (omega (arith, low))

-- words joined
pub bit_of_or : (a b k : ℕ) → (bit_at (bit_or a b) k == 1) ≡ ((bit_at a k == 1) || (bit_at b k == 1))
bit_of_or a b k = ap (λ n. n == 1) (bit_at_or a b k) ∙ or_one (bit_at a k) (bit_at b k) (bit_at-lt a k) (bit_at-lt b k)

pub bit_of_and : (a b k : ℕ) → (bit_at (bit_and a b) k == 1) ≡ ((bit_at a k == 1) && (bit_at b k == 1))
bit_of_and a b k = ap (λ n. n == 1) (bit_at_and a b k) ∙ and_one (bit_at a k) (bit_at b k) (bit_at-lt a k) (bit_at-lt b k)

pub bit_of_not : (a k : ℕ) → a < 2 ^ 64 → k < 64 → (bit_at (bit_not w64 a) k == 1) ≡ not (bit_at a k == 1)
bit_of_not a k fits inside = ap (λ n. n == 1) (bit_at_not w64 a k fits inside) ∙ not_one (bit_at a k) (bit_at-lt a k)

-- the first words are changed, and the others are as they were
pub record AreChangedTo (change : ℕ → Bool → Bool) (index : ℕ) (old words : List ℕ) (place : ℕ) : Type 0 where
  pub done : (k j : ℕ) → k < place → j < 64 →
      (bit_at (get_or words k 0) j == 1) ≡ change (64 * (index + k) + j) (bit_at (get_or old k 0) j == 1)
  pub left : (k : ℕ) → place ≤ k → get_or words k 0 ≡ get_or old k 0
  pub long : length words ≡ length old

pub AreChangedTo-more : (change : ℕ → Bool → Bool) (index : ℕ) (old words : List ℕ) (place word : ℕ) → AreChangedTo change index old words place →
    place < length words → ((j : ℕ) → j < 64 → (bit_at word j == 1) ≡ change (64 * (index + place) + j) (bit_at (get_or words place 0) j == 1)) →
    AreChangedTo change index old (set words place word) (place + 1)
AreChangedTo-more change index old words place word h inside is = record {
  done = λ k j low in_word. elim (cases_lt k place) [
    | inl below ↦
        let other : k ≢ place = omega (arith, below) in
        ap (λ w. bit_at w j == 1) (get_or-set_other words place k word 0 other) ∙ h.done k j below in_word
    | inr up ↦ (
        let at : k ≡ place = omega (arith, low, up) in
        ap (λ w. bit_at w j == 1) (get_or-set_at words place k word 0 at inside) ∙ is j in_word
        ∙ ap₂ (λ i w. change (64 * (index + i) + j) (bit_at w j == 1)) (sym at) (h.left place (omega arith) ∙ ap (λ i. get_or old i 0) (sym at))
        )
  ];
  left = λ k up. let other : k ≢ place = omega (arith, up) in get_or-set_other words place k word 0 other ∙ h.left k (omega (arith, up));
  long = length-set words place word ∙ h.long;
}

-- nothing is changed, and one change after the other
pub AreChanged-none : (change : ℕ → Bool → Bool) (index : ℕ) (words : List ℕ) → ((d : ℕ) (b : Bool) → change d b ≡ b) → AreChanged change index words words
AreChanged-none change index words same = record {
  long = refl;
  told = λ k j low in_word. sym (same (64 * (index + k) + j) (bit_at (get_or words k 0) j == 1));
}

pub AreChanged-then : (p q r : ℕ → Bool → Bool) (index : ℕ) (a b c : List ℕ) → ((d : ℕ) (x : Bool) → q d (p d x) ≡ r d x) → AreChanged p index a b →
    AreChanged q index b c → AreChanged r index a c
AreChanged-then p q r index a b c is first second = record {
  long = second.long ∙ first.long;
  told = λ k j low in_word.
      let d = 64 * (index + k) + j in
      second.told k j (omega (arith, low, first.long)) in_word ∙ ap (q d) (first.told k j low in_word) ∙ is d (bit_at (get_or a k 0) j == 1);
}
