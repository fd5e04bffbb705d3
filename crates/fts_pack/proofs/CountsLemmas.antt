-- Documents counted one by one.
use Rattle.std.proofs.Common.{◌≡◌, ℕ, ◌+◌, ◌-◌, ◌*◌, ◌/◌, ◌%◌, ◌^◌, ◌<◌, ◌≤◌, Bool, true, false, cond, slice_get, Option, Some, None, IfSome}
use Rattle.std.proofs.Common.{Contains, map, drop, List, [], ◌∷◌, length, take, set, get_or, count_by, refl, sym, ap, ap₂, ◌∙◌, subst, inl, inr, arith}
use Rattle.std.proofs.Common.{mod-eq_of_lt}
use Rattle.std.proofs.Math.Nat.{add-mul-mod_self_left, mod-add-div}
use Rattle.std.proofs.lemmas.Bool.{cases_Bool, cases_eq, cases_lt, eq-eqb, ne_eqb}
use Rattle.std.proofs.lemmas.List.{get_or-append_right, get_or-drop, get_or-map, get_or-set_other, get_or-set_same, get_or-take, get_or_append_left}
use Rattle.std.proofs.lemmas.List.{get_or_past, length-drop, length-map, length-set, length-take-le, take-map, take_rest}
use Rattle.std.specs.List.{list_all}
use Rattle.std.proofs.lemmas.Option.{slice_get-get_or, slice_get_past}
use Rattle.std.proofs.lemmas.List.Sums.{count_by_more_no, count_by_more_yes, sum_by-cons}
use borrow.Rule.Slice.PartMut.{put_mid}
use Rattle.std.specs.Option.{option_map, option_map_or}
use Rattle.fts_pack.specs.column.Column.{IsColumn, least_of}
use Rattle.fts_pack.specs.column.Counts.{AreCounted, AreWithin, having, is_value}
use Rattle.fts_pack.specs.column.OffsetArray.{number_at}
use Rattle.fts_pack.proofs.BitsLemmas.{each_set}
use Rattle.fts_pack.proofs.ColumnLemmas.{above_least, lane_at, value_missing, value_there}

-- a remainder plus a number has the remainder of the sum
pub mod-add : (a b m : ℕ) → (a % m + b) % m ≡ (a + b) % m
mod-add a b m =
    let whole : a % m + b + m * (a / m) ≡ a + b = omega (arith, mod-add-div a m) in
    sym (add-mul-mod_self_left (a % m + b) m (a / m)) ∙ ap (λ n. n % m) whole

-- a document without a number changes no count
pub AreCounted-missing : (number : ℕ → Option ℕ) (docs old now : List ℕ) (i : ℕ) → i < length docs → number (get_or docs i 0) ≡ None →
    AreCounted number (take i docs) old now → AreCounted number (take (i + 1) docs) old now
AreCounted-missing number docs old now i inside missing h = record {
  counted = λ place lt. h.counted place lt
      ∙ ap (λ n. (get_or old place 0 + n) % 2 ^ 64) (sym (count_by_more_no (λ doc. is_value place (number doc)) docs i 0 inside (ap (is_value place) missing)));
  long = h.long;
}

-- a document with a number adds one at its index
pub AreCounted-more : (number : ℕ → Option ℕ) (docs old now : List ℕ) (i x : ℕ) → i < length docs → x < length now → number (get_or docs i 0) ≡ Some x →
    AreCounted number (take i docs) old now → AreCounted number (take (i + 1) docs) old (set now x ((get_or now x 0 + 1) % 2 ^ 64))
AreCounted-more number docs old now i x inside room is h = record {
  counted = λ place lt.
      let test = λ (doc : ℕ). is_value place (number doc) in
      elim (cases_eq x place) [
        | inl here ↦ (
            let yes : test (get_or docs i 0) ≡ true = ap (is_value place) is ∙ eq-eqb x place here in
            ap (λ k. get_or (set now x ((get_or now x 0 + 1) % 2 ^ 64)) k 0) (sym here)
            ∙ get_or-set_same now x ((get_or now x 0 + 1) % 2 ^ 64) 0 room
            ∙ ap (λ n. (n + 1) % 2 ^ 64) (ap (λ k. get_or now k 0) here ∙ h.counted place lt)
            ∙ mod-add (get_or old place 0 + count_by test (take i docs)) 1 (2 ^ 64)
            ∙ ap (λ n. n % 2 ^ 64) (let e : get_or old place 0 + count_by test (take i docs) + 1 ≡ get_or old place 0 + count_by test (take (i + 1) docs) =
            omega (arith, count_by_more_yes test docs i 0 inside yes) in e))
        | inr other ↦ (
            let no : test (get_or docs i 0) ≡ false = ap (is_value place) is ∙ ne_eqb x place other in
            get_or-set_other now x place ((get_or now x 0 + 1) % 2 ^ 64) 0 (λ e. other (sym e))
            ∙ h.counted place lt
            ∙ ap (λ n. (get_or old place 0 + n) % 2 ^ 64) (sym (count_by_more_no test docs i 0 inside no)))
      ];
  long = length-set now x ((get_or now x 0 + 1) % 2 ^ 64) ∙ h.long;
}

-- tests that agree count the same
count_by-same : (p q : ℕ → Bool) (docs : List ℕ) → ((doc : ℕ) → p doc ≡ q doc) → count_by p docs ≡ count_by q docs
count_by-same p q [] same = refl
count_by-same p q (doc ∷ docs) same =
    sum_by-cons (λ x. cond (p x) 1 0) doc docs
    ∙ ap (λ n. cond (p doc) 1 0 + n) (count_by-same p q docs same)
    ∙ ap (λ b. cond b 1 0 + count_by q docs) (same doc)
    ∙ sym (sum_by-cons (λ x. cond (q x) 1 0) doc docs)

pub AreCounted-same : (number other : ℕ → Option ℕ) (docs old new : List ℕ) → ((doc : ℕ) → number doc ≡ other doc) → AreCounted number docs old new →
    AreCounted other docs old new
AreCounted-same number other docs old new same h = record {
  counted = λ place lt. h.counted place lt
      ∙ ap (λ n. (get_or old place 0 + n) % 2 ^ 64) (count_by-same (λ doc. is_value place (number doc)) (λ doc. is_value place (other doc)) docs
      (λ doc. ap (is_value place) (same doc)));
  long = h.long;
}

-- a document whose bit is set has the number of its element, and any other has none
pub number_at-set : (present : List Bool) (lanes : List ℕ) (doc : ℕ) → get_or present doc false ≡ true → number_at present lanes doc ≡ Some (get_or lanes doc 0)
number_at-set present lanes doc bit = ap (λ b. cond b (Some (get_or lanes doc 0)) None) bit

pub number_at-clear : (present : List Bool) (lanes : List ℕ) (doc : ℕ) → get_or present doc false ≡ false → number_at present lanes doc ≡ None
number_at-clear present lanes doc bit = ap (λ b. cond b (Some (get_or lanes doc 0)) None) bit

-- if each bit is set, each document has the number of its element
pub every_number : {A : Type 0} (value : A → ℕ) (present : List Bool) (lanes : List A) (len doc : ℕ) → len ≡ length present →
    list_all (λ bit. bit) present ≡ true → len ≤ length lanes → slice_get (map value (take len lanes)) doc ≡ number_at present (map value lanes) doc
every_number value present lanes len doc long all room =
    let numbers = map value lanes in
    let size : length (take len numbers) ≡ len = length-take-le len numbers (omega (arith, room, length-map lanes value)) in
    ap (λ xs. slice_get xs doc) (sym (take-map value len lanes)) ∙ elim (cases_lt doc len) [
      | inl inside ↦ slice_get-get_or (take len numbers) doc 0 (omega (arith, inside, size))
          ∙ ap Some (get_or-take len numbers doc 0 inside)
          ∙ sym (number_at-set present numbers doc (each_set present doc all (omega (arith, inside, long))))
      | inr past ↦ slice_get_past (take len numbers) doc (omega (arith, past, size))
          ∙ sym (number_at-clear present numbers doc (get_or_past present doc false (omega (arith, past, long))))
    ]

-- the number of an element, as an index
pub number_of_lane : {A : Type 0} (value : A → ℕ) (lanes : List A) (doc x : ℕ) (lane : A) → doc < length lanes → lane ≡ get_or lanes doc lane → x ≡ value lane →
    x ≡ get_or (map value lanes) doc 0
number_of_lane value lanes doc x lane inside there is = is ∙ ap value there ∙ sym (get_or-map value lanes doc lane 0 inside)

-- the least value of a column is within the values that are counted
pub first_within : (values : List (Option ℕ)) (least count first : ℕ) → AreWithin values least count → Contains values (Some first) →
    (least ≤ first) × (first < least + count)
first_within values least count first within there =
    let P : Option ℕ → Type 0 = λ v. IfSome v (λ x. (least ≤ x) × (x < least + count)) in
    subst P there.2 (within there.0 (Some first) there.1)

-- the index of an element is in the counts, for a present and a missing value
place_in : (v : Option ℕ) (least count first lane : ℕ) → (least ≤ first) × (first < least + count) → IfSome v (λ x. (least ≤ x) × (x < least + count)) →
    IfSome v (λ x. first ≤ x) → lane ≡ option_map_or (λ x. x - first) v 0 → lane < count - (first - least)
place_in None least count first lane here within above is = omega (arith, here.0, here.1, is)
place_in (Some x) least count first lane here within above is = omega (arith, here.0, here.1, within.0, within.1, above, is)

-- each element is an index in the counts, whether its document has a value or not
pub lane_within : (values : List (Option ℕ)) (range : Option (ℕ × ℕ)) (present : List Bool) (lanes : List ℕ) → IsColumn values range present lanes →
    (least count first doc : ℕ) → least_of range ≡ first → (least ≤ first) × (first < least + count) → AreWithin values least count → doc < length values →
    get_or lanes doc 0 < count - (first - least)
lane_within values range present lanes h least count first doc first_is here within inside =
    place_in (get_or values doc None) least count first (get_or lanes doc 0) here (within doc None inside)
    (subst (λ n. IfSome (get_or values doc None) (λ x. n ≤ x)) first_is (above_least values range h.range_is doc None inside))
    (lane_at values range present lanes h doc inside ∙ ap (λ n. option_map_or (λ x. x - n) (get_or values doc None) 0) first_is)

-- the value of a document is the least plus its element
pub value_of_number : (shown values : List (Option ℕ)) (range : Option (ℕ × ℕ)) (present : List Bool) (lanes : List ℕ) (first doc : ℕ) → shown ≡ values →
    IsColumn shown range present lanes → least_of range ≡ first → get_or values doc None ≡ option_map (λ n. first + n) (number_at present lanes doc)
value_of_number shown values range present lanes first doc view column first_is =
    let h : IsColumn values range present lanes = subst (λ v. IsColumn v range present lanes) view column in
    elim (cases_Bool (get_or present doc false)) [
      | inl set ↦ value_there values range present lanes first doc h first_is set
          ∙ sym (ap (option_map (λ n. first + n)) (number_at-set present lanes doc set))
      | inr clear ↦ value_missing values present doc (sym h.present_is) clear
          ∙ sym (ap (option_map (λ n. first + n)) (number_at-clear present lanes doc clear))
    ]

-- a value's index, counted from the first value or from the least
is_value-moved : (least skip first place : ℕ) (v : Option ℕ) → least + skip ≡ first → skip ≤ place →
    is_value (place - skip) v ≡ is_value (least + place) (option_map (λ n. first + n) v)
is_value-moved least skip first place None start above = refl
is_value-moved least skip first place (Some x) start above =
    elim (cases_eq x (place - skip)) [
      | inl same ↦ eq-eqb x (place - skip) same ∙ sym (eq-eqb (first + x) (least + place) (omega (arith, same, start, above)))
      | inr other ↦ ne_eqb x (place - skip) other ∙ sym (ne_eqb (first + x) (least + place) (λ e. other (omega (arith, e, start, above))))
    ]

-- no value is before the first
is_value-before : (least skip first place : ℕ) (v : Option ℕ) → least + skip ≡ first → place < skip → is_value (least + place) (option_map (λ n. first + n) v)
    ≡ false
is_value-before least skip first place None start below = refl
is_value-before least skip first place (Some x) start below = ne_eqb (first + x) (least + place) (λ e. omega (arith, e, start, below))

-- a test that fails counts nothing
count_by-none : (docs : List ℕ) → count_by (λ doc. false) docs ≡ 0
count_by-none [] = refl
count_by-none (doc ∷ docs) = omega (arith, sum_by-cons (λ (x : ℕ). 0) doc docs, count_by-none docs)

-- if no document has a value, its count is unchanged
pub stays : (values : List (Option ℕ)) (docs : List ℕ) (x count : ℕ) → count < 2 ^ 64 → ((doc : ℕ) → is_value x (get_or values doc None) ≡ false) →
    count ≡ (count + having values docs x) % 2 ^ 64
stays values docs x count small none =
    let no_more : count + having values docs x ≡ count =
    omega (arith, count_by-same (λ doc. is_value x (get_or values doc None)) (λ doc. false) docs none, count_by-none docs) in
    sym (ap (λ n. n % 2 ^ 64) no_more ∙ mod-eq_of_lt small)

-- the counts from the first value on give all counts
pub counted_from_first : (values : List (Option ℕ)) (present : List Bool) (lanes docs counts part : List ℕ) (least skip first : ℕ) →
    ((doc : ℕ) → get_or values doc None ≡ option_map (λ n. first + n) (number_at present lanes doc)) → least + skip ≡ first → skip ≤ length counts →
    ((k : ℕ) → get_or (put_mid skip (length counts - skip) counts part) k 0 < 2 ^ 64)
    → AreCounted (number_at present lanes) docs (take (length counts - skip) (drop skip counts)) part
    → (place : ℕ) → place < length counts → get_or (put_mid skip (length counts - skip) counts part) place 0
    ≡ (get_or counts place 0 + having values docs (least + place)) % 2 ^ 64
counted_from_first values present lanes docs counts part least skip first value start room small h place inside =
    let number = number_at present lanes in
    let front : length (take skip counts) ≡ skip = length-take-le skip counts room in
    let rest : take (length counts - skip) (drop skip counts) ≡ drop skip counts = take_rest counts skip in
    let size : length part ≡ length counts - skip = h.long ∙ ap length rest ∙ length-drop skip counts in
    elim (cases_lt place skip) [
      | inl below ↦ (
          let kept : get_or (put_mid skip (length counts - skip) counts part) place 0 ≡ get_or counts place 0 =
          get_or_append_left (take skip counts) _ 0 place (omega (arith, below, front)) ∙ get_or-take skip counts place 0 below in
          kept ∙ stays values docs (least + place) (get_or counts place 0) (subst (λ n. n < 2 ^ 64) kept (small place))
          (λ doc. ap (is_value (least + place)) (value doc) ∙ is_value-before least skip first place (number doc) start below))
      | inr above ↦ (
          let at : get_or (take (length counts - skip) (drop skip counts)) (place - skip) 0 ≡ get_or counts place 0 =
          ap (λ xs. get_or xs (place - skip) 0) rest ∙ get_or-drop skip counts (place - skip) 0
          ∙ ap (λ k. get_or counts k 0) (let e : skip + (place - skip) ≡ place = omega (arith, above) in e) in
          let same : count_by (λ doc. is_value (place - skip) (number doc)) docs ≡ having values docs (least + place) =
          count_by-same _ _ docs (λ doc. is_value-moved least skip first place (number doc) start above ∙ sym (ap (is_value (least + place)) (value doc)))
          in
          get_or-append_right (take skip counts) _ skip place 0 front above
          ∙ get_or_append_left part _ 0 (place - skip) (omega (arith, above, inside, size))
          ∙ h.counted (place - skip) (omega (arith, above, inside, size, h.long))
          ∙ ap₂ (λ a b. (a + b) % 2 ^ 64) at same)
    ]
