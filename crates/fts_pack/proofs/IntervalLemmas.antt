-- Documents searched one by one, from the last to the first.
use Rattle.std.proofs.Common.{◌≡◌, ℕ, suc, ◌+◌, ◌-◌, ◌<◌, ◌≤◌, true, false, ◌&&◌, nat_le, Option, Some, None, All, List, length, drop, drop-cons, get_or, refl}
use Rattle.std.proofs.Common.{sym, ◌∙◌, subst, arith}
use Rattle.std.proofs.lemmas.List.Elements.{All-cons}
use Rattle.std.specs.Option.{option_map}
use Rattle.fts_pack.specs.column.Column.{is_within}
use Rattle.fts_pack.specs.column.Interval.{IsLastWithin, NoneWithin}

-- one more document is not within the bounds
pub NoneWithin-before : (number : ℕ → Option ℕ) (low high : ℕ) (docs : List ℕ) (place : ℕ) → 0 < place →
    (place ≤ length docs) × NoneWithin number low high (drop place docs) → is_within low high (number (get_or docs (place - 1) 0)) ≡ false →
    (place - 1 ≤ length docs) × NoneWithin number low high (drop (place - 1) docs)
NoneWithin-before number low high docs place more h out =
    let inside : place - 1 < length docs = omega (arith, more, h.0) in
    let next : place ≡ suc (place - 1) = omega (arith, more) in
    let P : ℕ → Type 0 = λ doc. is_within low high (number doc) ≡ false in
    let rest : All P (drop (suc (place - 1)) docs) = subst (λ (k : ℕ). All P (drop k docs)) next h.1 in (
      omega (arith, inside),
      subst (λ (xs : List ℕ). All P xs) (sym (drop-cons docs (place - 1) 0 inside))
          (All-cons P (get_or docs (place - 1) 0) (drop (suc (place - 1)) docs) out rest),
    )

-- the last document within the bounds is found
pub IsLastWithin-found : (number : ℕ → Option ℕ) (low high : ℕ) (docs : List ℕ) (place : ℕ) → place < length docs →
    is_within low high (number (get_or docs place 0)) ≡ true → NoneWithin number low high (drop (place + 1) docs) →
    IsLastWithin number low high docs (Some place)
IsLastWithin-found number low high docs place inside within h = record { some = (inside, within); behind = h; none = λ e. absurd (cc) }

pub IsLastWithin-none : (number : ℕ → Option ℕ) (low high : ℕ) (docs : List ℕ) → NoneWithin number low high docs → IsLastWithin number low high docs None
IsLastWithin-none number low high docs h = record { some = tt; behind = tt; none = λ e. h }

-- a search by one number gives the result of a search by another, if these are within bounds alike
pub IsLastWithin-same : (number other : ℕ → Option ℕ) (low high low' high' : ℕ) (docs : List ℕ) (found : Option ℕ) →
    ((doc : ℕ) → is_within low high (number doc) ≡ is_within low' high' (other doc)) → IsLastWithin number low high docs found →
    IsLastWithin other low' high' docs found
IsLastWithin-same number other low high low' high' docs None same h =
    IsLastWithin-none other low' high' docs (λ k d inside. sym (same (get_or docs k d)) ∙ h.none refl k d inside)
IsLastWithin-same number other low high low' high' docs (Some place) same h =
    IsLastWithin-found other low' high' docs place h.some.0 (sym (same (get_or docs place 0)) ∙ h.some.1)
    (λ k d inside. sym (same (get_or (drop (place + 1) docs) k d)) ∙ h.behind k d inside)

-- a value is within bounds if its element is within them less the least value
pub is_within-above : (v : Option ℕ) (least low high : ℕ) → least ≤ high →
    is_within (low - least) (high - least) v ≡ is_within low high (option_map (λ n. least + n) v)
is_within-above None least low high order = refl
is_within-above (Some x) least low high order =
    let same : (nat_le (low - least) x && nat_le x (high - least)) ≡ (nat_le low (least + x) && nat_le (least + x) high) = grind arith in
    same
