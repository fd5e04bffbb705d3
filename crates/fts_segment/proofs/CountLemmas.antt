-- The number of a column's documents within bounds, from the lists of its numbers.
use Rattle.std.proofs.Common.{◌≡◌, ◌+◌, ◌-◌, ◌<◌, ◌≤◌, ℕ, zero, suc, Bool, true, false, cond, ◌&&◌, nat_le, List, [], ◌∷◌, Option, Some, None, length, get_or}
use Rattle.std.proofs.Common.{min, take, refl, sym, ap, ◌∙◌, arith, inl, inr}
use Rattle.std.specs.Prelude.{filter, slice_get}
use Rattle.std.proofs.lemmas.List.{get_or-map, take_all}
use Rattle.std.proofs.lemmas.Bool.{cases_Bool, cases_lt, le-leb, lt-leb}
use Rattle.std.proofs.lemmas.List.Kept.{AllPairs-from_increasing}
use Rattle.std.proofs.lemmas.List.Sums.{length-filter, count_by-le-length}
use Rattle.fts_pack.specs.column.Column.{is_within}
use Rattle.fts_segment.specs.Between.{IsCut, count_between}
use Rattle.fts_segment.specs.Numbers.{IsNumberIndex, is_number}
use Rattle.fts_segment.specs.Segments.{numbers_where}
use Rattle.fts_segment.proofs.BetweenLemmas.{AreKeyed-numbers, its_number, numbers_count}
use Rattle.fts_segment.proofs.FieldLemmas.{is_number-is}
use Rattle.fts_segment.proofs.HoldingLemmas.{numbers_where-cons}
use Rattle.fts_segment.proofs.SumsLemmas.{total, total-next}

-- 1 for true and 0 for false
abbrev one : Bool → ℕ
one true = 1
one false = 0

count-cons : {X : Type 0} (p : X → Bool) (x : X) (xs : List X) → length (filter p (x ∷ xs)) ≡ one (p x) + length (filter p xs)
count-cons p x xs = by (p x)
  where
    by : (b : Bool) → length (cond b (x ∷ filter p xs) (filter p xs)) ≡ one b + length (filter p xs)
    by true = omega arith
    by false = omega arith

-- the count of one test is the sum of the counts of two others
count-split : {X : Type 0} (p q r : X → Bool) (xs : List X) → ((k : ℕ) (x : X) → slice_get xs k ≡ Some x → one (p x) ≡ one (q x) + one (r x)) →
    length (filter p xs) ≡ length (filter q xs) + length (filter r xs)
count-split p q r [] split = refl
count-split p q r (x ∷ xs) split =
    omega (arith, count-cons p x xs, count-cons q x xs, count-cons r x xs, split 0 x refl, count-split p q r xs (λ k y at. split (suc k) y at))

count-none : {X : Type 0} (p : X → Bool) (xs : List X) → ((k : ℕ) (x : X) → slice_get xs k ≡ Some x → one (p x) ≡ 0) → length (filter p xs) ≡ 0
count-none p [] none = refl
count-none p (x ∷ xs) none = omega (arith, count-cons p x xs, none 0 x refl, count-none p xs (λ k y at. none (suc k) y at))

numbers_where-count : {X : Type 0} (p : X → Bool) (n : ℕ) (xs : List X) → length (numbers_where p n xs) ≡ length (filter p xs)
numbers_where-count p n [] = refl
numbers_where-count {X} p n (x ∷ xs) = ap length (numbers_where-cons p n x xs) ∙ by (p x) (numbers_where-count p (n + 1) xs) ∙ sym (count-cons p x xs)
  where
    by : (b : Bool) → length (numbers_where p (n + 1) xs) ≡ length (filter p xs) → length (cond b (n ∷ numbers_where p (n + 1) xs) (numbers_where p (n + 1) xs))
        ≡ one b + length (filter p xs)
    by true rest = omega (arith, rest)
    by false rest = omega (arith, rest)

-- whether a number is below one
abbrev below : ℕ → Option ℕ → Bool
below bound None = false
below bound (Some x) = nat_le (x + 1) bound

one-le : (a b : ℕ) → a ≤ b → one (nat_le a b) ≡ 1
one-le a b le = ap one (le-leb a b le)

one-gt : (a b : ℕ) → b < a → one (nat_le a b) ≡ 0
one-gt a b gt = ap one (lt-leb a b gt)

one-is : (x y : ℕ) → y ≡ x → one (is_number x (Some y)) ≡ 1
one-is x y same = ap (λ z. one (is_number x (Some z))) same ∙ ap one (its_number x)

one-not : (x y : ℕ) → (y ≡ x → ⊥) → one (is_number x (Some y)) ≡ 0
one-not x y other = elim (cases_Bool (is_number x (Some y))) [
  | inl known ↦ absurd (other (let e : Some y ≡ Some x = is_number-is x (Some y) known in cc))
  | inr unknown ↦ ap one unknown
]

-- the numbers up to a bound are those below another and those between
within-split : (low high : ℕ) → low ≤ high + 1 → (v : Option ℕ) → one (below (high + 1) v) ≡ one (below low v) + one (is_within low high v)
within-split low high order None = refl
within-split low high order (Some x) = elim (cases_lt x low) [
  | inl less ↦ omega (
    arith,
    one-le (x + 1) (high + 1) (omega (arith, less, order)),
    one-le (x + 1) low (omega (arith, less)),
    ap
        (λ b. one (b && nat_le x high)) (lt-leb low x less),
  )
  | inr more ↦ elim (cases_lt high x) [
    | inl above ↦ omega (
      arith,
      one-gt (x + 1) (high + 1) (omega (arith, above)),
      one-gt (x + 1) low (omega (arith, more)),
      ap (λ b. one (b && nat_le x high))
          (le-leb low x more),
      one-gt x high above,
    )
    | inr inside ↦ omega (
      arith,
      one-le (x + 1) (high + 1) (omega (arith, inside)),
      one-gt (x + 1) low (omega (arith, more)),
      ap (λ b. one (b && nat_le x high))
          (le-leb low x more),
      one-le x high inside,
    )
  ]
]

within-none : (low high : ℕ) → high < low → (v : Option ℕ) → one (is_within low high v) ≡ 0
within-none low high order None = refl
within-none low high order (Some x) = elim (cases_lt x low) [
  | inl less ↦ ap (λ b. one (b && nat_le x high)) (lt-leb low x less)
  | inr more ↦ ap (λ b. one (b && nat_le x high)) (le-leb low x more) ∙ one-gt x high (omega (arith, order, more))
]

-- each list has as many documents as have its own number, and each number has a list
pub record AreCounted (column : List (Option ℕ)) (lists : List (List ℕ)) (key : ℕ → ℕ) : Type 0 where
  pub size : (k : ℕ) → k < length lists → length (get_or lists k []) ≡ length (filter (is_number (key k)) column)
  pub whole : (doc x : ℕ) → slice_get column doc ≡ Some (Some x) → (k : ℕ) × (k < length lists) × (key k ≡ x)
  pub rises : (i j : ℕ) → i < j → j < length lists → key i < key j

module _ (column : List (Option ℕ)) (lists : List (List ℕ)) (key : ℕ → ℕ) (counted : AreCounted column lists key) where
  -- the lists of the numbers below a bound have as many documents as have one of these numbers
  total-below : (j bound : ℕ) → j ≤ length lists → ((k : ℕ) → k < j → key k < bound) → ((k : ℕ) → j ≤ k → k < length lists → bound ≤ key k) →
      total (take j lists) ≡ length (filter (below bound) column)
  total-below zero bound inside before behind = sym (count-none (below bound) column none)
    where
      none : (doc : ℕ) (v : Option ℕ) → slice_get column doc ≡ Some v → one (below bound v) ≡ 0
      none doc None at = refl
      none doc (Some x) at = let found = counted.whole doc x at in one-gt (x + 1) bound (omega (arith, found.2, behind found.0 (omega arith) found.1))
  total-below (suc j) bound inside before behind =
      omega (
        arith,
        total-next lists j (omega (arith, inside)),
        counted.size j (omega (arith, inside)),
        total-below j (key j) (omega (arith, inside)) (λ k less. counted.rises k j less (omega (arith, inside))) behind_j,
        count-split (below bound) (below (key j)) (is_number (key j)) column split,
      )
    where
      behind_j : (k : ℕ) → j ≤ k → k < length lists → key j ≤ key k
      behind_j k le less = elim (cases_lt j k) [
        | inl lower ↦ omega (arith, counted.rises j k lower less)
        | inr same ↦ let e : j ≡ k = omega (arith, le, same) in omega (arith, ap key e)
      ]

      split : (doc : ℕ) (v : Option ℕ) → slice_get column doc ≡ Some v → one (below bound v) ≡ one (below (key j) v) + one (is_number (key j) v)
      split doc None at = refl
      split doc (Some x) at =
          let found = counted.whole doc x at in
          elim (cases_lt found.0 j) [
            | inl lower ↦
                let less : x < key j = omega (arith, found.2, counted.rises found.0 j lower (omega (arith, inside))) in
                let other : x ≡ key j → ⊥ = λ same. omega (arith, same, less) in
                omega (
                  arith,
                  one-le (x + 1) bound (omega (arith, less, before j (omega arith))),
                  one-le (x + 1) (key j) (omega (arith, less)),
                  one-not (key j)
                      x other,
                )
            | inr upper ↦ elim (cases_lt j found.0) [
              | inl higher ↦
                  let more : bound ≤ x = omega (arith, found.2, behind found.0 (omega (arith, higher)) found.1) in
                  let top = before j (omega arith) in
                  let other : x ≡ key j → ⊥ = λ same. omega (arith, same, more, top) in
                  omega (arith, one-gt (x + 1) bound (omega (arith, more)), one-gt (x + 1) (key j) (omega (arith, more, top)), one-not (key j) x other)
              | inr not_higher ↦
                  let e : j ≡ found.0 = omega (arith, upper, not_higher) in
                  let same : x ≡ key j = sym (ap key e ∙ found.2) in
                  omega (
                    arith,
                    one-le (x + 1) bound (omega (arith, same, before j (omega arith))),
                    one-gt (x + 1) (key j) (omega (arith, same)),
                    one-is (key j)
                        x same,
                  )
            ]
          ]

  -- all lists together have no more documents than the column
  pub total-all : total lists ≤ length column
  total-all =
      let n = length lists in
      let bound = key (n - 1) + 1 in
      let before : (k : ℕ) → k < n → key k < bound = λ k less. elim (cases_lt k (n - 1)) [
        | inl lower ↦ omega (arith, counted.rises k (n - 1) lower (omega (arith, less)))
        | inr last ↦ let e : k ≡ n - 1 = omega (arith, less, last) in omega (arith, ap key e)
      ] in
      let is = total-below n bound (omega arith) before (λ k le less. absurd (omega (arith, le, less))) in
      let whole : take n lists ≡ lists = take_all n lists (omega arith) in
      omega (arith, is, ap total whole, length-filter (below bound) column, count_by-le-length (below bound) column)

  -- the lists between two cuts have as many documents as have a number within bounds
  pub total-between : (low high start from end : ℕ) → from ≤ length lists → ((k : ℕ) → k < from → key k < low) →
      ((k : ℕ) → from ≤ k → k < length lists → low ≤ key k) →
      end ≤ length lists → ((k : ℕ) → k < end → key k ≤ high) → ((k : ℕ) → end ≤ k → k < length lists → high < key k) → start ≡ min from end →
      total (take end lists) - total (take start lists) ≡ count_between low high column
  total-between low high start from end from_inside lower upper end_inside inside above is = elim (cases_lt (high + 1) low) [
    | inl empty ↦
        let past : end ≤ from = elim (cases_lt from end) [
          | inl less ↦ absurd (omega (arith, inside from less, upper from (omega arith) (omega (arith, less, end_inside)), empty))
          | inr more ↦ more
        ] in
        let same : start ≡ end = omega (arith, is, past) in
        let none = count-none (is_within low high) column (λ doc v at. within-none low high (omega (arith, empty)) v) in
        omega (arith, none, ap (λ k. total (take k lists)) same)
    | inr order ↦
        let up : from ≤ end = elim (cases_lt end from) [
          | inl less ↦ absurd (omega (arith, lower end less, above end (omega arith) (omega (arith, less, from_inside)), order))
          | inr more ↦ more
        ] in
        let same : start ≡ from = omega (arith, is, up) in
        let to_low = total-below from low from_inside lower upper in
        let to_high = total-below end (high + 1) end_inside (λ k less. omega (arith, inside k less)) (λ k le less. omega (arith, above k le less)) in
        let split = count-split (below (high + 1)) (below low) (is_within low high) column (λ doc v at. within-split low high order v) in
        omega (arith, to_low, to_high, split, ap (λ k. total (take k lists)) same)
  ]

-- the lists of a number index are counted by its numbers
pub AreCounted-numbers : (column : List (Option ℕ)) (numbers : List ℕ) (lists : List (List ℕ)) → IsNumberIndex column numbers lists →
    AreCounted column lists (λ k. get_or numbers k 0)
AreCounted-numbers column numbers lists index =
    let list_of : ℕ → List ℕ = λ x. numbers_where (is_number x) 0 column in
    let count : length lists ≡ length numbers = numbers_count column numbers lists index in
    record {
      size = λ k less. ap (λ ls. length (get_or ls k [])) index.listed ∙ ap length (get_or-map list_of numbers k 0 [] (omega (arith, less, count)))
          ∙ numbers_where-count (is_number (get_or numbers k 0)) 0 column;
      whole = λ doc x at. let found = (AreKeyed-numbers column numbers lists index).whole doc x at in (found.0, found.1, found.2);
      rises = λ i j less inside. AllPairs-from_increasing numbers index.rises i j 0 less (omega (arith, inside, count));
    }

-- the lists of a number index between two cuts have as many documents as have a number within bounds
pub count_numbers : (column : List (Option ℕ)) (numbers : List ℕ) (lists : List (List ℕ)) (low high start from end : ℕ) → IsNumberIndex column numbers lists →
    IsCut numbers low from → IsCut numbers (high + 1) end → start ≡ min from end →
    total (take end lists) - total (take start lists) ≡ count_between low high column
count_numbers column numbers lists low high start from end index lower upper is =
    let count = numbers_count column numbers lists index in
    total-between column lists (λ k. get_or numbers k 0) (AreCounted-numbers column numbers lists index) low high start from end
    (omega (arith, lower.within, count)) lower.before (λ k more less. lower.behind k more (omega (arith, less, count)))
    (omega (arith, upper.within, count)) (λ k less. omega (arith, upper.before k less))
    (λ k more less. omega (arith, upper.behind k more (omega (arith, less, count)))) is
