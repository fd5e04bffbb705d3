-- Documents that are taken from the front of a list, one after the other.
use Rattle.std.proofs.Common.{◌≡◌, ℕ, ◌+◌, ◌-◌, ◌<◌, ◌≤◌, Some, None, List, [], ◌∷◌, ◌++◌, append_assoc, length, get_or, set, take, drop, min, refl, sym, ap}
use Rattle.std.proofs.Common.{ap₂, subst, ◌∙◌, inl, inr, arith}
use Rattle.std.specs.List.{slice_get}
use Rattle.std.proofs.lemmas.Bool.{cases_lt}
use Rattle.std.proofs.lemmas.List.{append-nil, drop-take, length-append, nil_from_length, take-append-drop, take-append-le, take-take, take_more, take_more_set}
use Rattle.std.proofs.lemmas.List.{take_all, drop_all, drop-drop, get_or-drop, length-drop}
use Rattle.std.proofs.lemmas.Option.{get_or_from_slice_get, slice_get_within}
use Rattle.fts_postings.specs.Takes.{IsStretch, Takes}

-- the first `count` members of `whole` are at the front of `out`, and the others are left
pub record Taken (whole left out : List ℕ) (count : ℕ) : Type 0 where
  pub left_is : left ≡ drop count whole
  pub front : take count out ≡ take count whole
  pub within : count ≤ length whole

pub Taken-none : (whole out : List ℕ) → Taken whole whole out 0
Taken-none whole out = record { left_is = refl; front = refl; within = omega arith }

first_within : (xs : List ℕ) (d : ℕ) → Some d ≡ slice_get xs 0 → 0 < length xs
first_within xs d is = slice_get_within xs 0 d (sym is)

pub Taken-more : (whole left out next : List ℕ) (count d : ℕ) → Taken whole left out count → Some d ≡ slice_get left 0 → count < length out →
    next ≡ drop 1 left → Taken whole next (set out count d) (count + 1)
Taken-more whole left out next count d h is room step =
    let some : 0 < length left = first_within left d is in
    let inside : count < length whole = omega (arith, ap length h.left_is, length-drop count whole, some) in
    let start : count + 0 ≡ count = omega arith in
    let here : get_or whole count 0 ≡ d = ap (λ n. get_or whole n 0) (sym start) ∙ sym (get_or-drop count whole 0 0) ∙ ap (λ xs. get_or xs 0 0) (sym h.left_is)
    ∙ get_or_from_slice_get left 0 d 0 (sym is) in
    record {
      left_is = step ∙ ap (drop 1) h.left_is ∙ drop-drop 1 count whole ∙ ap (λ n. drop n whole) (omega arith);
      front = take_more_set out count d room ∙ ap₂ (λ xs x. xs ++ x ∷ []) h.front (sym here) ∙ sym (take_more whole count 0 inside);
      within = omega arith;
    }

-- some were taken
pub Taken-some : (whole left out : List ℕ) (count : ℕ) → Taken whole left out count → count ≤ 128 → (0 < length whole → 0 < count) →
    Takes whole left out count
Taken-some whole left out count h few some = record { some = some; few = few; within = h.within; taken = h.front; left_is = h.left_is }

-- all were taken
pub Taken-all : (whole left out : List ℕ) (count : ℕ) → Taken whole left out count → count ≤ 128 → None ≡ slice_get left 0 → Takes whole left out count
Taken-all whole left out count h few none =
    let gone : left ≡ [] =
    elim left as (λ xs. None ≡ slice_get xs 0 → xs ≡ []) [ [] ↦ λ e. refl | x ∷ xs ↦ λ e. absurd (let f : None ≡ Some x = e in cc) ] none in
    Taken-some whole left out count h few
    (λ some. omega (arith, some, h.within, ap length h.left_is, ap length gone, length-drop count whole))

-- there was no more room
pub Taken-full : (whole left out : List ℕ) (count : ℕ) → Taken whole left out count → count ≡ 128 → Takes whole left out 128
Taken-full whole left out count h is =
    subst (Takes whole left out) is (Taken-some whole left out count h (omega (arith, is)) (λ some. omega (arith, is)))

take-add : (n m : ℕ) (xs : List ℕ) → take (n + m) xs ≡ take n xs ++ take m (drop n xs)
take-add n m xs =
    sym (take-append-drop n (take (n + m) xs)) ∙ ap₂ (λ ys zs. ys ++ zs) (take-take n (n + m) xs (omega arith)) (drop-take n m xs)

-- a stretch more
pub Taken-stretch : (whole left next out written : List ℕ) (filled count : ℕ) → Taken whole left out filled → IsStretch left next out written filled count →
    Taken whole next written (filled + count)
Taken-stretch whole left next out written filled count h s = record {
  left_is = s.left_is ∙ ap (drop count) h.left_is ∙ drop-drop count filled whole;
  front = s.front ∙ ap₂ (λ xs ys. xs ++ take count ys) h.front h.left_is ∙ sym (take-add filled count whole);
  within = omega (arith, h.within, s.within, ap length h.left_is, length-drop filled whole);
}

-- a stretch of nothing
module _ (whole left next out written : List ℕ) (filled count : ℕ) (h : Taken whole left out filled) (s : IsStretch left next out written filled count)
    (none : count ≡ 0) where
  pub Taken-rest : Taken whole next written filled
  Taken-rest = subst (Taken whole next written) (let e : filled + count ≡ filled = omega (arith, none) in e)
      (Taken-stretch whole left next out written filled count h s)

  pub none_left : None ≡ slice_get next 0
  none_left =
      let gone : length left ≡ 0 =
      elim (cases_lt 0 (length left)) [ inl some ↦ absurd (omega (arith, none, s.some some)) | inr empty ↦ omega (arith, empty) ] in
      ap (λ xs. slice_get xs 0) (sym (nil_from_length next (omega (arith, gone, ap length s.left_is, length-drop count left))))

-- if nothing is left, nothing is taken
pub no_stretch : (left out : List ℕ) (filled : ℕ) → (0 < length left → ⊥) → filled < 128 → IsStretch left left out out filled 0
no_stretch left out filled none room = record {
  some = λ some. absurd (none some);
  within = omega arith;
  room = omega (arith, room);
  front = ap (λ n. take n out) (let e : filled + 0 ≡ filled = omega arith in e) ∙ sym (append-nil (take filled out));
  left_is = refl;
}

-- a stretch out of an array at whose front lies what is open
pub stretch_copied : (numbers here rest next out written : List ℕ) (at len filled count : ℕ) → take len numbers ≡ here → len ≡ length here → at < len →
    filled < 128 → count ≡ min (len - at) (128 - filled) →
    take (filled + count) written ≡ take filled out ++ take count (drop at numbers) → next ≡ drop count (drop at here ++ rest) →
    IsStretch (drop at here ++ rest) next out written filled count
stretch_copied numbers here rest next out written at len filled count is size inside room most copied left =
    let long : length (drop at here ++ rest) ≡ len - at + length rest = omega (arith, length-append (drop at here) rest, length-drop at here, size) in
    let fits : count ≤ len - at = omega (arith, most) in
    let whole : at + (len - at) ≡ len = omega (arith, inside) in
    let front : take (len - at) (drop at numbers) ≡ drop at here = sym (drop-take at (len - at) numbers) ∙ ap (λ n. drop at (take n numbers)) whole
    ∙ ap (drop at) is in
    record {
      some = λ _. omega (arith, most, inside, room);
      within = omega (arith, long, fits);
      room = omega (arith, most, room);
      front = copied ∙ ap (λ xs. take filled out ++ xs) (sym (take-take count (len - at) (drop at numbers) fits) ∙ ap (take count) front
          ∙ sym (take-append-le count (drop at here) rest (omega (arith, fits, length-drop at here, size))));
      left_is = left;
    }

-- a stretch from the front on
pub Takes-stretch : (left next out written : List ℕ) (count : ℕ) → IsStretch left next out written 0 count → Takes left next written count
Takes-stretch left next out written count s = record {
  some = s.some;
  few = omega (arith, s.room);
  within = s.within;
  taken = ap (λ n. take n written) (let e : count ≡ 0 + count = omega arith in e) ∙ s.front;
  left_is = s.left_is;
}

-- one document is a stretch
pub stretch_of_one : (left next out : List ℕ) (filled d : ℕ) → Some d ≡ slice_get left 0 → filled < 128 → length out ≡ 128 → next ≡ drop 1 left →
    IsStretch left next out (set out filled d) filled 1
stretch_of_one left next out filled d is room long step =
    let some : 0 < length left = first_within left d is in
    let inside : filled < length out = omega (arith, room, long) in
    let one : take 1 left ≡ d ∷ [] =
    elim left as (λ xs. Some d ≡ slice_get xs 0 → take 1 xs ≡ d ∷ []) [
      | [] ↦ λ e. absurd (let f : Some d ≡ None = e in cc)
      | x ∷ xs ↦ λ e.
          (let f : Some d ≡ Some x = e in let g : x ≡ d = cc in ap (λ y. y ∷ []) g)
    ] is in
    record {
      some = λ _. omega arith;
      within = omega (arith, some);
      room = omega (arith, room);
      front = take_more_set out filled d inside ∙ ap (λ xs. take filled out ++ xs) (sym one);
      left_is = step;
    }

pub no_first : (left : List ℕ) → None ≡ slice_get left 0 → 0 < length left → ⊥
no_first [] none some = omega (arith, some)
no_first (x ∷ xs) none some = let e : None ≡ Some x = none in cc
