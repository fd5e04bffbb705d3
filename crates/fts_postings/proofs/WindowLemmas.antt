-- Documents as bits: one more, the first of them, and those from a target on.
use Rattle.std.proofs.Common.{◌≡◌, ◌≢◌, ℕ, zero, suc, ◌+◌, ◌-◌, ◌%◌, ◌^◌, ◌<◌, ◌≤◌, Bool, true, false, cond, ◌==◌, ◌&&◌, nat_le, max, List, [], ◌∷◌}
use Rattle.std.proofs.Common.{◌++◌, drop, refl, sym, ap, ap₂, subst, ◌∙◌, inl, inr, arith}
use Rattle.std.specs.Int.{bit_at, w64, trailing_zeros}
use Rattle.std.proofs.lemmas.Bool.{cases_Bool, cases_lt, le-leb, lt-leb}
use Rattle.std.specs.Int.RustNames.{bit_and}
use Rattle.std.proofs.lemmas.Nat.Bits.{bit_at_and, bit_at-lt, bit_at-zero, bit_at-trailing_zeros, bit_at_mask_below, bit_at_mask_inside}
use Rattle.fts_pack.specs.Documents.{Rises}
use Rattle.fts_postings.specs.Sets.{with_one}
use Rattle.fts_postings.specs.Remaining.{at_least}
use Rattle.fts_postings.specs.declared.window.Window.{Window}
use Rattle.fts_postings.specs.Windows.{AreMarksFrom, found_in, is_found, is_marked, marked, passing}
use Rattle.fts_postings.proofs.PassingLemmas.{Rises-passing, passing-append}
use Rattle.fts_postings.proofs.UnionLemmas.{above, leaves, same, stays, with_one-front}

-- tests that agree on a range pass the same
pub passing-same : (p q : ℕ → Bool) (a n : ℕ) → ((d : ℕ) → a ≤ d → d < a + n → p d ≡ q d) → passing p a n ≡ passing q a n
passing-same p q a zero h = refl
passing-same p q a (suc n) h =
    ap₂ (λ b ys. cond b (a ∷ ys) ys) (h a (omega arith) (omega arith))
    (passing-same p q (a + 1) n (λ d high low. h d (omega (arith, high)) (omega (arith, low))))

-- what fails at the front is passed over
pub passing-ahead : (p : ℕ → Bool) (a k n : ℕ) → ((d : ℕ) → a ≤ d → d < a + k → p d ≡ false) → passing p a (k + n) ≡ passing p (a + k) n
passing-ahead p a zero n h =
    let e : 0 + n ≡ n = omega arith in
    let f : a ≡ a + 0 = omega arith in
    ap₂ (passing p) f e
passing-ahead p a (suc k) n h =
    let e : suc k + n ≡ suc (k + n) = omega arith in
    let f : a + 1 + k ≡ a + suc k = omega arith in
    ap (passing p a) e
    ∙ ap (λ b. cond b (a ∷ passing p (a + 1) (k + n)) (passing p (a + 1) (k + n))) (h a (omega arith) (omega arith))
    ∙ passing-ahead p (a + 1) k n (λ d high low. h d (omega (arith, high)) (omega (arith, low)))
    ∙ ap (λ b. passing p b n) f

-- the first that passes, and what follows it
pub passing-at : (p : ℕ → Bool) (a k n : ℕ) → k < n → ((d : ℕ) → a ≤ d → d < a + k → p d ≡ false) → p (a + k) ≡ true →
    passing p a n ≡ (a + k) ∷ passing p (a + suc k) (n - suc k)
passing-at p a k n inside lack there =
    let m = n - suc k in
    let e : n ≡ k + suc m = omega (arith, inside) in
    let f : a + k + 1 ≡ a + suc k = omega arith in
    ap (passing p a) e ∙ passing-ahead p a k (suc m) lack
    ∙ ap (λ b. cond b ((a + k) ∷ passing p (a + k + 1) m) (passing p (a + k + 1) m)) there
    ∙ ap (λ b. (a + k) ∷ passing p b m) f

-- if the first document that passes no longer does, the others are left
pub passing-next : (p q : ℕ → Bool) (a k n : ℕ) → k < n → ((d : ℕ) → a ≤ d → d < a + k → p d ≡ false) → p (a + k) ≡ true →
    ((d : ℕ) → a ≤ d → d < a + suc k → q d ≡ false) → ((d : ℕ) → a + suc k ≤ d → d < a + n → q d ≡ p d) → passing q a n ≡ drop 1 (passing p a n)
passing-next p q a k n inside lack there gone rest =
    let m = n - suc k in
    let e : n ≡ suc k + m = omega (arith, inside) in
    ap (passing q a) e ∙ passing-ahead q a (suc k) m gone
    ∙ passing-same q p (a + suc k) m (λ d high low. rest d high (omega (arith, low, inside)))
    ∙ ap (drop 1) (sym (passing-at p a k n inside lack there))

-- one more passes
pub passing-mark : (p q : ℕ → Bool) (a n doc : ℕ) → a ≤ doc → doc < a + n → p doc ≡ true → ((d : ℕ) → a ≤ d → d < a + n → d ≢ doc → p d ≡ q d) →
    passing p a n ≡ with_one doc (passing q a n)
passing-mark p q a zero doc low high now others = absurd (omega (arith, low, high))
passing-mark p q a (suc n) doc low high now others =
    let R = passing q (a + 1) n in
    elim (cases_lt a doc) [
      | inl before ↦
          let more = passing-mark p q (a + 1) n doc (omega (arith, before)) (omega (arith, high)) now
          (λ d up down other. others d (omega (arith, up)) (omega (arith, down)) other) in
          let start : p a ≡ q a = others a (omega arith) (omega arith) (λ e. absurd (omega (arith, e, before))) in
          ap₂ (λ b ys. cond b (a ∷ ys) ys) start more ∙ elim (cases_Bool (q a)) [
            | inl kept ↦ ap (λ b. cond b (a ∷ with_one doc R) (with_one doc R)) kept
                ∙ sym (ap (λ b. with_one doc (cond b (a ∷ R) R)) kept ∙ above doc a R before)
            | inr other ↦ ap (λ b. cond b (a ∷ with_one doc R) (with_one doc R)) other ∙ sym (ap (λ b. with_one doc (cond b (a ∷ R) R)) other)
          ]
      | inr here ↦
          let e : doc ≡ a = omega (arith, low, here) in
          let after = passing-same p q (a + 1) n (λ d up down. others d (omega (arith, up)) (omega (arith, down)) (λ f. absurd (omega (arith, f, up, e)))) in
          ap₂ (λ b ys. cond b (a ∷ ys) ys) (ap p (sym e) ∙ now) after ∙ sym (elim (cases_Bool (q a)) [
            | inl kept ↦ ap (λ b. with_one doc (cond b (a ∷ R) R)) kept ∙ same doc a R e
            | inr other ↦
                let up : Rises (suc a) R = subst (λ b. Rises b R) (let f : a + 1 ≡ suc a = omega arith in f) (Rises-passing q (a + 1) n) in
                ap (λ b. with_one doc (cond b (a ∷ R) R)) other ∙ ap (λ d. with_one d R) e ∙ with_one-front a R up
          ])
    ]

-- those from a target on
passing-at_least : (p q : ℕ → Bool) (a n t : ℕ) → ((d : ℕ) → a ≤ d → d < a + n → d < t → q d ≡ false) → ((d : ℕ) → a ≤ d → d < a + n → t ≤ d → q d ≡ p d) →
    passing q a n ≡ at_least t (passing p a n)
passing-at_least p q a zero t gone rest = refl
passing-at_least p q a (suc n) t gone rest =
    let R = passing p (a + 1) n in
    let more = passing-at_least p q (a + 1) n t (λ d up down low. gone d (omega (arith, up)) (omega (arith, down)) low)
    (λ d up down high. rest d (omega (arith, up)) (omega (arith, down)) high) in
    elim (cases_lt a t) [
      | inl low ↦
          ap₂ (λ b ys. cond b (a ∷ ys) ys) (gone a (omega arith) (omega arith) low) more ∙ sym (elim (cases_Bool (p a)) [
            | inl kept ↦ ap (λ b. at_least t (cond b (a ∷ R) R)) kept ∙ leaves t a R low
            | inr other ↦ ap (λ b. at_least t (cond b (a ∷ R) R)) other
          ])
      | inr high ↦
          ap₂ (λ b ys. cond b (a ∷ ys) ys) (rest a (omega arith) (omega arith) high) more ∙ elim (cases_Bool (p a)) [
            | inl kept ↦ ap (λ b. cond b (a ∷ at_least t R) (at_least t R)) kept ∙ sym (ap (λ b. at_least t (cond b (a ∷ R) R)) kept ∙ stays t a R high)
            | inr other ↦ ap (λ b. cond b (a ∷ at_least t R) (at_least t R)) other ∙ sym (ap (λ b. at_least t (cond b (a ∷ R) R)) other)
          ]
    ]

pub unset : (n k : ℕ) → bit_at n k ≡ 0 → (bit_at n k == 1) ≡ false
unset n k is = ap (λ b. b == 1) is

is_set : (n k : ℕ) → bit_at n k ≡ 1 → (bit_at n k == 1) ≡ true
is_set n k is = ap (λ b. b == 1) is

pub nothing : (p : ℕ → Bool) (a n : ℕ) → ((d : ℕ) → a ≤ d → d < a + n → p d ≡ false) → passing p a n ≡ []
nothing p a zero none = refl
nothing p a (suc n) none =
    ap₂ (λ b ys. cond b (a ∷ ys) ys) (none a (omega arith) (omega arith)) (nothing p (a + 1) n (λ d up down. none d (omega (arith, up)) (omega (arith, down))))

pub marked-nothing : (from last : ℕ) → marked from last 0 ≡ []
marked-nothing from last = nothing (is_marked from 0) from (suc last - from) (λ d up down. unset 0 (d - from) (bit_at-zero (d - from)))

-- what has no mark is left behind
pub found-ahead : (base from to last : ℕ) (words : List ℕ) → from ≤ to → ((d : ℕ) → from ≤ d → d < to → is_found base words d ≡ false) →
    found_in base from last words ≡ found_in base to last words
found-ahead base from to last words up none = elim (cases_lt last to) [
  | inl past ↦
      let zero_left : suc last - to ≡ 0 = omega (arith, past) in
      nothing (is_found base words) from (suc last - from) (λ d high low. none d high (omega (arith, low, past, high)))
      ∙ sym (ap (passing (is_found base words) to) zero_left)
  | inr within ↦
      let e : suc last - from ≡ (to - from) + (suc last - to) = omega (arith, up, within) in
      let f : from + (to - from) ≡ to = omega (arith, up) in
      ap (passing (is_found base words) from) e
      ∙ passing-ahead (is_found base words) from (to - from) (suc last - to) (λ d high low. none d high (omega (arith, low, f)))
      ∙ ap (λ a. passing (is_found base words) a (suc last - to)) f
]

-- the first that is marked, and what follows it
pub found-first : (base doc last : ℕ) (words : List ℕ) → doc ≤ last → is_found base words doc ≡ true →
    found_in base doc last words ≡ doc ∷ found_in base (doc + 1) last words
found-first base doc last words within here =
    let n = suc last - (doc + 1) in
    let e : suc last - doc ≡ suc n = omega (arith, within) in
    ap (passing (is_found base words) doc) e ∙ ap (λ b. cond b (doc ∷ passing (is_found base words) (doc + 1) n) (passing (is_found base words) (doc + 1) n))
    here

-- behind the last there is nothing
pub found-past : (base from last : ℕ) (words : List ℕ) → last < from → found_in base from last words ≡ []
found-past base from last words past = let none : suc last - from ≡ 0 = omega (arith, past) in ap (passing (is_found base words) from) none

-- those from a target on
pub found-at_least : (base from target last : ℕ) (words : List ℕ) → found_in base (max from target) last words ≡ at_least target (found_in base from last words)
found-at_least base from target last words =
    let test : ℕ → Bool = λ d. nat_le target d && is_found base words d in
    let to = max from target in
    sym (sym (passing-at_least (is_found base words) test from (suc last - from) target
    (λ d up down low. ap (λ b. b && is_found base words d) (lt-leb target d low))
    (λ d up down high. ap (λ b. b && is_found base words d) (le-leb target d high)))
    ∙ elim (cases_lt last to) [
      | inl past ↦
          nothing test from (suc last - from) (λ d up down. ap (λ b. b && is_found base words d) (lt-leb target d (omega (arith, past, down, up))))
          ∙ sym (found-past base to last words past)
      | inr within ↦
          let e : suc last - from ≡ (to - from) + (suc last - to) = omega (arith, within) in
          let f : from + (to - from) ≡ to = omega arith in
          ap (passing test from) e
          ∙ passing-ahead test from (to - from) (suc last - to)
          (λ d high low. ap (λ b. b && is_found base words d) (lt-leb target d (omega (arith, low, high))))
          ∙ ap (λ a. passing test a (suc last - to)) f
          ∙ passing-same test (is_found base words) to (suc last - to)
          (λ d high low. ap (λ b. b && is_found base words d) (le-leb target d (omega (arith, high))))
    ])

-- the marks of 64 documents from a place among them on
module _ (words : List ℕ) (base from word : ℕ) (order : base ≤ from) (of : AreMarksFrom (from - (from - base) % 64) base words word) (marks : ℕ)
    (is : marks ≡ bit_and word (2 ^ 64 - 2 ^ ((from - base) % 64))) where
  abbrev at : ℕ
  at = (from - base) % 64

  below : (k : ℕ) → k < at → bit_at marks k ≡ 0
  below k low = ap (λ n. bit_at n k) is ∙ omega (arith, bit_at_and word (2 ^ 64 - 2 ^ at) k, bit_at_mask_below at 64 k low)

  inside : (k : ℕ) → at ≤ k → k < 64 → bit_at marks k ≡ bit_at word k
  inside k up down = ap (λ n. bit_at n k) is ∙ omega (arith, bit_at_and word (2 ^ 64 - 2 ^ at) k, bit_at_mask_inside at 64 k up down, bit_at-lt word k)

  found_at : (k d : ℕ) → at ≤ k → k < 64 → d ≡ from - at + k → is_found base words d ≡ (bit_at marks k == 1)
  found_at k d up down same = ap (is_found base words) same ∙ sym (of k down) ∙ ap (λ n. n == 1) (sym (inside k up down))

  pub none_here : marks ≡ 0 → (d : ℕ) → from ≤ d → d < from - at + 64 → is_found base words d ≡ false
  none_here zero_marks d up down =
      let k = d - (from - at) in
      found_at k d (omega (arith, up)) (omega (arith, down, up)) (omega (arith, up)) ∙ ap (λ n. bit_at n k == 1) zero_marks ∙ unset 0 k (bit_at-zero k)

  -- up to a place of the word, it marks what the word does
  pub word_part : (places : ℕ) → at ≤ places → places ≤ 64 → passing (is_found base words) from (places - at)
      ≡ passing (is_marked (from - at) marks) (from - at) places
  word_part places more few =
      let start = from - at in
      let n = places - at in
      let begin : start + at ≡ from = omega (arith, order) in
      let whole : places ≡ at + n = omega (arith, more) in
      passing-same (is_found base words) (is_marked start marks) from n (λ d up down. found_at (d - start) d (omega (arith, up, order))
      (omega (arith, down, order, up, few, more)) (omega (arith, up, order)))
      ∙ sym (ap (passing (is_marked start marks) start) whole
      ∙ passing-ahead (is_marked start marks) start at n (λ d up down. unset marks (d - start) (below (d - start) (omega (arith, down, up))))
      ∙ ap (λ a. passing (is_marked start marks) a n) begin)

  -- what it marks, and what the words behind it do
  pub word_split : (last : ℕ) → from - at + 63 ≤ last → found_in base from last words ≡ marked (from - at) (from - at + 63) marks
      ++ found_in base (from - at + 64) last words
  word_split last long =
      let start = from - at in
      let n = 64 - at in
      let more = suc last - (start + 64) in
      let test = is_found base words in
      let all : suc last - from ≡ n + more = omega (arith, order, long) in
      let next : from + n ≡ start + 64 = omega (arith, order) in
      let whole : 64 ≡ suc (start + 63) - start = omega arith in
      let here : passing test from n ≡ marked start (start + 63) marks =
      word_part 64 (omega arith) (omega arith) ∙ ap (passing (is_marked start marks) start) whole in
      ap (passing test from) all ∙ passing-append test from n more ∙ ap₂ (λ xs a. xs ++ passing test a more) here next

  module _ (some : 0 < marks) (fits : marks < 2 ^ 64) where
    abbrev lowest : ℕ
    lowest = trailing_zeros w64 marks

    abbrev place : (lowest < 64) × (bit_at marks lowest ≡ 1) × ((i : ℕ) → i < lowest → bit_at marks i ≡ 0)
    place = bit_at-trailing_zeros w64 marks some fits

    pub lowest_from : at ≤ lowest
    lowest_from = elim (cases_lt lowest at) [
      | inl low ↦ absurd (let e : 1 ≡ 0 = sym place.1 ∙ below lowest low in omega (arith, e))
      | inr up ↦ up
    ]

    pub lowest_is : is_found base words (from - at + lowest) ≡ true
    lowest_is = found_at lowest (from - at + lowest) lowest_from place.0 refl ∙ is_set marks lowest place.1

    pub none_before : (d : ℕ) → from ≤ d → d < from - at + lowest → is_found base words d ≡ false
    none_before d up down =
        let k = d - (from - at) in
        let low : k < lowest = omega (arith, up, down) in
        found_at k d (omega (arith, up)) (omega (arith, low, place.0)) (omega (arith, up)) ∙ unset marks k (place.2 k low)

-- the documents of a window
abbrev pub found : Window → List ℕ
found w = found_in w.base w.from w.last w.words
