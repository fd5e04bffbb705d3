-- The range of a column, the offsets from its least value, and the values that they give back.
use Rattle.std.proofs.Common.{◌≡◌, ℕ, zero, suc, ◌+◌, ◌-◌, ◌%◌, ◌^◌, ◌<◌, ◌≤◌, inl, inr, List, [], ◌∷◌, ◌++◌, Bool, true, false, Option, Some, None}
use Rattle.std.proofs.Common.{is_some, IfSome, All, Contains, map, replicate, length, get_or, take, set, min, max, cond, refl, sym, ap, ap₂, ◌∙◌, subst}
use Rattle.std.proofs.Common.{arith, unwrap_or, lit<}
use Rattle.std.specs.Option.{option_map_or}
use Rattle.std.proofs.lemmas.List.{length-map, get_or-map, set_at, append_assoc, take_more, map_push, length-take-le, get_or_past}
use Rattle.std.proofs.lemmas.List.{get_or-take}
use Rattle.std.proofs.lemmas.List.Elements.{All-push, Contains-append_left, Contains-push}
use Rattle.std.proofs.lemmas.Bool.{cases_lt}
use Rattle.fts_pack.specs.bits.Digits.{IsWidthOf}
use Rattle.fts_pack.specs.column.Column.{HaveOffsets, IsColumn, IsRangeOf, range_with, least_of, spread_of, offsets, values_at}
use Rattle.fts_pack.specs.column.OffsetArray.{AreLanesOf}

pub IsRangeOf-missing : (values : List (Option ℕ)) (range : Option (ℕ × ℕ)) → IsRangeOf values range → IsRangeOf (values ++ None ∷ []) range
IsRangeOf-missing values None h = All-push (λ v. v ≡ None) values None h refl
IsRangeOf-missing values (Some range) h = (
  Contains-append_left values _ _ h.0,
  Contains-append_left values _ _ h.1,
  All-push (λ v. IfSome v (λ x. (range.0 ≤ x) × (x ≤ range.1))) values None h.2 tt,
)

-- a property of two numbers holds of the lesser and the greater
min_case : (P : ℕ → Type 0) (a b : ℕ) → P a → P b → P (min a b)
min_case P a b p q =
    elim (cases_lt a b) [
      | inl lt ↦ (let e : min a b ≡ a = omega arith in rw e p)
      | inr ge ↦ (let e : min a b ≡ b = omega arith in rw e q)
    ]

max_case : (P : ℕ → Type 0) (a b : ℕ) → P a → P b → P (max a b)
max_case P a b p q =
    elim (cases_lt a b) [
      | inl lt ↦ (let e : max a b ≡ b = omega arith in rw e q)
      | inr ge ↦ (let e : max a b ≡ a = omega arith in rw e p)
    ]

wider : (v : Option ℕ) (low high low' high' : ℕ) → low' ≤ low → high ≤ high' → IfSome v (λ x. (low ≤ x) × (x ≤ high)) → IfSome v (λ x. (low' ≤ x) × (x ≤ high'))
wider None low high low' high' a b h = tt
wider (Some x) low high low' high' a b h = (omega (arith, h.0), omega (arith, h.1))

none_within : (v : Option ℕ) (x : ℕ) → v ≡ None → IfSome v (λ y. (x ≤ y) × (y ≤ x))
none_within None x e = tt
none_within (Some y) x e = absurd (cc)

pub IsRangeOf-present : (values : List (Option ℕ)) (range : Option (ℕ × ℕ)) (x : ℕ) → IsRangeOf values range →
    IsRangeOf (values ++ Some x ∷ []) (Some (range_with range x))
IsRangeOf-present values None x h = (
  Contains-push values (Some x),
  Contains-push values (Some x),
  All-push (λ v. IfSome v (λ y. (x ≤ y) × (y ≤ x))) values (Some x) (λ k d inside. none_within (get_or values k d) x (h k d inside)) (omega arith, omega arith),
)
IsRangeOf-present values (Some range) x h =
    let low : min range.0 x ≤ range.0 = omega arith in
    let high : range.1 ≤ max range.1 x = omega arith in (
      min_case (λ y. Contains (values ++ Some x ∷ []) (Some y)) range.0 x (Contains-append_left values _ _ h.0) (Contains-push values (Some x)),
      max_case (λ y. Contains (values ++ Some x ∷ []) (Some y)) range.1 x (Contains-append_left values _ _ h.1) (Contains-push values (Some x)),
      All-push (λ v. IfSome v (λ y. (min range.0 x ≤ y) × (y ≤ max range.1 x))) values (Some x) (λ k d inside. wider (get_or values k d) range.0 range.1
          (min range.0 x) (max range.1 x) low high (h.2 k d inside)) (omega arith, omega arith),
    )

pub range_with-fits : (range : Option (ℕ × ℕ)) (x : ℕ) → IfSome range (λ r. r.1 < 2 ^ 64) → x < 2 ^ 64 → (range_with range x).1 < 2 ^ 64
range_with-fits None x h small = small
range_with-fits (Some range) x h small = omega (arith, h, small)

-- each value is at least the least
above_one : (v : Option ℕ) (low high : ℕ) → IfSome v (λ x. (low ≤ x) × (x ≤ high)) → IfSome v (λ x. low ≤ x)
above_one None low high h = tt
above_one (Some x) low high h = h.0

above_none : (v : Option ℕ) → v ≡ None → IfSome v (λ x. 0 ≤ x)
above_none None e = tt
above_none (Some x) e = absurd (cc)

pub above_least : (values : List (Option ℕ)) (range : Option (ℕ × ℕ)) → IsRangeOf values range → All (λ v. IfSome v (λ x. least_of range ≤ x)) values
above_least values None h = λ k d inside. above_none (get_or values k d) (h k d inside)
above_least values (Some range) h =
    λ k d inside. above_one (get_or values k d) range.0 range.1 (h.2 k d inside)

-- each offset is at most the spread
offset_within : (v : Option ℕ) (low high : ℕ) → IfSome v (λ x. (low ≤ x) × (x ≤ high)) → option_map_or (λ x. x - low) v 0 ≤ high - low
offset_within None low high h = omega arith
offset_within (Some x) low high h = omega (arith, h.0, h.1)

offset_none : (v : Option ℕ) → v ≡ None → option_map_or (λ x. x - 0) v 0 ≡ 0
offset_none None e = refl
offset_none (Some x) e = absurd (cc)

pub offset_at : (least k d : ℕ) (values : List (Option ℕ)) → k < length values →
    get_or (offsets least values) k d ≡ option_map_or (λ x. x - least) (get_or values k None) 0
offset_at least k d values inside = get_or-map (λ v. option_map_or (λ x. x - least) v 0) values k None d inside

pub length-offsets : (least : ℕ) (values : List (Option ℕ)) → length (offsets least values) ≡ length values
length-offsets least values = length-map values (λ v. option_map_or (λ x. x - least) v 0)

pub offsets_fit : (values : List (Option ℕ)) (range : Option (ℕ × ℕ)) (width : ℕ) → IsRangeOf values range → spread_of range < 2 ^ width →
    All (λ x. x < 2 ^ width) (offsets (least_of range) values)
offsets_fit values None width h small =
    λ k d inside. let within : k < length values = omega (arith, length-map values (λ v. option_map_or (λ x. x - 0) v 0)) in
    rw (offset_at 0 k d values within, offset_none (get_or values k None) (h k None within)) small
offsets_fit values (Some range) width h small =
    λ k d inside. let within : k < length values = omega (arith, length-map values (λ v. option_map_or (λ x. x - range.0) v 0)) in
    rw (offset_at range.0 k d values within) (omega (arith, offset_within (get_or values k None) range.0 range.1 (h.2 k None within), small))

-- a value is the least plus its offset
value_again : (v : Option ℕ) (least : ℕ) → IfSome v (λ x. least ≤ x) → cond (is_some v) (Some (least + option_map_or (λ x. x - least) v 0)) None ≡ v
value_again None least h = refl
value_again (Some x) least h = ap Some (omega (arith, h))

All-tail : (P : Option ℕ → Type 0) (v : Option ℕ) (values : List (Option ℕ)) → All P (v ∷ values) → All P values
All-tail P v values h = λ k d inside. h (suc k) d (omega (arith, inside))

pub values_at-offsets : (least : ℕ) (values : List (Option ℕ)) → All (λ v. IfSome v (λ x. least ≤ x)) values →
    values_at least (map is_some values) (offsets least values) ≡ values
values_at-offsets least [] h = refl
values_at-offsets least (v ∷ values) h =
    ap₂ (λ x xs. x ∷ xs) (value_again v least (h 0 None (omega arith))) (values_at-offsets least values (All-tail (λ w. IfSome w (λ x. least ≤ x)) v values h))

-- the range that a column without values is built with
pub unwrap_least : (range : Option (ℕ × ℕ)) → (unwrap_or range (0, 0)).0 ≡ least_of range
unwrap_least None = refl
unwrap_least (Some range) = refl

pub unwrap_spread : (range : Option (ℕ × ℕ)) → (unwrap_or range (0, 0)).1 - (unwrap_or range (0, 0)).0 ≡ spread_of range
unwrap_spread None = refl
unwrap_spread (Some range) = refl

-- the values of a range have offsets of as many bits as its spread
pub HaveOffsets-range : (values : List (Option ℕ)) (range : Option (ℕ × ℕ)) (width : ℕ) (ends : ℕ × ℕ) → length values ≤ 2 ^ 32 → IsRangeOf values range →
    ends ≡ unwrap_or range (0, 0) → ends.1 - ends.0 < 2 ^ width → HaveOffsets ends.0 width values
HaveOffsets-range values range width ends few is known small =
    let least : ends.0 ≡ least_of range = ap (λ r. r.0) known ∙ unwrap_least range in
    let spread : ends.1 - ends.0 ≡ spread_of range = ap (λ r. r.1 - r.0) known ∙ unwrap_spread range in
    rw least (record { few = few; above = above_least values range is; fits = offsets_fit values range width is (rw spread at small) })

-- numbers past those of the presence bits don't matter
values_at-take : (least : ℕ) (present : List Bool) (numbers : List ℕ) → values_at least present (take (length present) numbers) ≡ values_at least present numbers
values_at-take least [] numbers = refl
values_at-take least (bit ∷ present) [] = refl
values_at-take least (bit ∷ present) (x ∷ numbers) = ap (λ xs. cond bit (Some (least + x)) None ∷ xs) (values_at-take least present numbers)

-- a column's fields give back its values
pub column_values : (values : List (Option ℕ)) (range : Option (ℕ × ℕ)) (present : List Bool) (lanes : List ℕ) → IsRangeOf values range →
    present ≡ map is_some values → AreLanesOf (offsets (least_of range) values) lanes → values_at (least_of range) present lanes ≡ values
column_values values range present lanes r present_is lanes_are =
    let least = least_of range in
    let count : length present ≡ length (offsets least values) = ap length present_is ∙ length-map values is_some ∙ sym (length-offsets least values) in
    sym (values_at-take least present lanes)
    ∙ ap₂ (λ bits xs. values_at least bits xs) present_is (ap (λ n. take n lanes) count ∙ lanes_are.first)
    ∙ values_at-offsets least values (above_least values range r)

-- the presence bits of one more document
pub presence_more : (values : List (Option ℕ)) (doc : ℕ) → doc < length values →
    map is_some (take (doc + 1) values) ++ replicate (length values - (doc + 1)) false ≡ map is_some (take doc values)
    ++ is_some (get_or values doc None) ∷ replicate (length values - (doc + 1)) false
presence_more values doc inside =
    ap (λ xs. map is_some xs ++ replicate (length values - (doc + 1)) false) (take_more values doc None inside)
    ∙ ap (λ xs. xs ++ replicate (length values - (doc + 1)) false) (map_push is_some (take doc values) (get_or values doc None))
    ∙ append_assoc (map is_some (take doc values)) (is_some (get_or values doc None) ∷ []) (replicate (length values - (doc + 1)) false)

presence_before : (values : List (Option ℕ)) (doc : ℕ) → doc < length values →
    replicate (length values - doc) false ≡ false ∷ replicate (length values - (doc + 1)) false
presence_before values doc inside =
    ap (λ n. replicate n false) (let e : length values - doc ≡ suc (length values - (doc + 1)) = omega arith in e)

pub presence_missing : (values : List (Option ℕ)) (present : List Bool) (doc : ℕ) → doc < length values →
    present ≡ map is_some (take doc values) ++ replicate (length values - doc) false → is_some (get_or values doc None) ≡ false →
    present ≡ map is_some (take (doc + 1) values) ++ replicate (length values - (doc + 1)) false
presence_missing values present doc inside h missing =
    h ∙ ap (λ xs. map is_some (take doc values) ++ xs) (presence_before values doc inside ∙ ap (λ b. b ∷ replicate (length values - (doc + 1)) false)
    (sym missing)) ∙ sym (presence_more values doc inside)

pub presence_set : (values : List (Option ℕ)) (present : List Bool) (doc : ℕ) → doc < length values →
    present ≡ map is_some (take doc values) ++ replicate (length values - doc) false → is_some (get_or values doc None) ≡ true →
    set present doc true ≡ map is_some (take (doc + 1) values) ++ replicate (length values - (doc + 1)) false
presence_set values present doc inside h there =
    let front : length (map is_some (take doc values)) ≡ doc = length-map (take doc values) is_some ∙ length-take-le doc values (omega arith) in
    ap (λ xs. set xs doc true) (h ∙ ap (λ xs. map is_some (take doc values) ++ xs) (presence_before values doc inside))
    ∙ set_at (map is_some (take doc values)) false (replicate (length values - (doc + 1)) false) true doc front
    ∙ ap (λ b. map is_some (take doc values) ++ b ∷ replicate (length values - (doc + 1)) false) (sym there) ∙ sym (presence_more values doc inside)

pub column_length : (shown values : List (Option ℕ)) (range : Option (ℕ × ℕ)) (present : List Bool) (lanes : List ℕ) → shown ≡ values →
    IsColumn shown range present lanes → length values ≡ length present
column_length shown values range present lanes view h =
    ap length (sym view) ∙ sym (ap length h.present_is ∙ length-map shown is_some)

pub column_present : (shown values : List (Option ℕ)) (range : Option (ℕ × ℕ)) (present : List Bool) (lanes : List ℕ) → shown ≡ values →
    IsColumn shown range present lanes → map is_some values ≡ present
column_present shown values range present lanes view h = ap (map is_some) (sym view) ∙ sym h.present_is

-- the first elements are the offsets of all values
pub column_offsets : (shown values : List (Option ℕ)) (range : Option (ℕ × ℕ)) (present : List Bool) (lanes : List ℕ) → shown ≡ values →
    IsColumn shown range present lanes → (count : ℕ) → count ≡ length values → take count lanes ≡ offsets (least_of range) values
column_offsets shown values range present lanes view h count all =
    let least = least_of range in
    ap (λ n. take n lanes) (all ∙ sym (ap length view) ∙ sym (length-offsets least shown)) ∙ h.lanes_are.first ∙ ap (offsets least) view

-- a present value is within the range
pub within_range : (values : List (Option ℕ)) (range : ℕ × ℕ) (i x : ℕ) → IsRangeOf values (Some range) → i < length values → get_or values i None ≡ Some x →
    x ≤ range.1
within_range values range i x h inside at =
    let bounds : IfSome (Some x) (λ y. (range.0 ≤ y) × (y ≤ range.1)) = subst (λ v. IfSome v (λ y. (range.0 ≤ y) × (y ≤ range.1))) at (h.2 i None inside) in
    bounds.1

pub none_in : (values : List (Option ℕ)) (i : ℕ) → All (λ v. v ≡ None) values → get_or values i None ≡ None
none_in values i h = elim (cases_lt i (length values)) [ inl inside ↦ h i None inside | inr past ↦ get_or_past values i None past ]

only_one : (x width k d : ℕ) → x < 2 ^ width → k < length (x ∷ []) → get_or (x ∷ []) k d < 2 ^ width
only_one x width zero d small inside = small
only_one x width (suc k) d small inside = absurd (omega arith)

-- an optional value can't be both none and some
none_is_some : (v : Option ℕ) (x : ℕ) → v ≡ None → v ≡ Some x → ⊥
none_is_some v x none some = absurd (cc)

bounds_at : (values : List (Option ℕ)) (low high x : ℕ) → Contains values (Some x) → All (λ v. IfSome v (λ y. (low ≤ y) × (y ≤ high))) values →
    (low ≤ x) × (x ≤ high)
bounds_at values low high x h all =
    let here : IfSome (get_or values h.0 (Some x)) (λ y. (low ≤ y) × (y ≤ high)) = all h.0 (Some x) h.1 in
    subst (λ v. IfSome v (λ y. (low ≤ y) × (y ≤ high))) h.2 here

pub range_unique : (values : List (Option ℕ)) (a b : Option (ℕ × ℕ)) → IsRangeOf values a → IsRangeOf values b → a ≡ b
range_unique values None None h g = refl
range_unique values None (Some b) h g = absurd (none_is_some (get_or values g.0.0 (Some b.0)) b.0 (h g.0.0 (Some b.0) g.0.1) g.0.2)
range_unique values (Some a) None h g = absurd (none_is_some (get_or values h.0.0 (Some a.0)) a.0 (g h.0.0 (Some a.0) h.0.1) h.0.2)
range_unique values (Some a) (Some b) h g =
    let low : a.0 ≡ b.0 = omega (arith, (bounds_at values a.0 a.1 b.0 g.0 h.2).0, (bounds_at values b.0 b.1 a.0 h.0 g.2).0) in
    let high : a.1 ≡ b.1 = omega (arith, (bounds_at values a.0 a.1 b.1 g.1 h.2).1, (bounds_at values b.0 b.1 a.1 h.1 g.2).1) in
    ap₂ (λ x y. Some (x, y)) low high

-- the width of the spread
pub IsWidthOf-spread : (values : List (Option ℕ)) (kept : Option (ℕ × ℕ)) (width : ℕ) → IsRangeOf values kept → spread_of kept < 2 ^ width →
    ((other : ℕ) → spread_of kept < 2 ^ other → width ≤ other) → (range : Option (ℕ × ℕ)) → IsRangeOf values range → IsWidthOf (spread_of range ∷ []) width
IsWidthOf-spread values kept width kept_is holds least range is =
    subst (λ r. IsWidthOf (spread_of r ∷ []) width) (range_unique values kept range kept_is is) (record {
      holds = λ k d inside. only_one (spread_of kept) width k d holds inside;
      least = λ other each. least other (each 0 0 (lit< tt));
    })

-- a present value fits its bits
pub value_fits : (values : List (Option ℕ)) (range : Option (ℕ × ℕ)) (i least greatest x : ℕ) → IsRangeOf values range → IfSome range (λ r. r.1 < 2 ^ 64) →
    range ≡ Some (least, greatest) → i < length values → get_or values i None ≡ Some x → x < 2 ^ 64
value_fits values None i least greatest x h fits e inside at = absurd (cc)
value_fits values (Some range) i least greatest x h fits e inside at =
    omega (arith, within_range values range i x h inside at, fits)

-- the element of a present value is its offset
lane_is : (v : Option ℕ) (least lane : ℕ) → IfSome v (λ x. least ≤ x) → lane ≡ option_map_or (λ x. x - least) v 0 →
    IfSome v (λ x. (least ≤ x) × (least + lane ≡ x))
lane_is None least lane above e = tt
lane_is (Some x) least lane above e = (above, omega (arith, above, e))

pub lane_at : (values : List (Option ℕ)) (range : Option (ℕ × ℕ)) (present : List Bool) (lanes : List ℕ) → IsColumn values range present lanes → (i : ℕ) →
    i < length values → get_or lanes i 0 ≡ option_map_or (λ x. x - least_of range) (get_or values i None) 0
lane_at values range present lanes h i inside =
    let least = least_of range in
    let numbers = offsets least values in
    let near : i < length numbers = omega (arith, inside, length-offsets least values) in
    sym (get_or-take (length numbers) lanes i 0 near) ∙ ap (λ xs. get_or xs i 0) h.lanes_are.first ∙ offset_at least i 0 values inside

pub lane_there : (values : List (Option ℕ)) (range : Option (ℕ × ℕ)) (present : List Bool) (lanes : List ℕ) → IsColumn values range present lanes → (i : ℕ) →
    IfSome (get_or values i None) (λ x. (least_of range ≤ x) × (least_of range + get_or lanes i 0 ≡ x))
lane_there values range present lanes h i = elim (cases_lt i (length values)) [
  | inr past ↦ (rw (get_or_past values i None past) tt)
  | inl inside ↦ lane_is (get_or values i None) (least_of range) (get_or lanes i 0) (above_least values range h.range_is i None inside)
      (lane_at values range present lanes h i inside)
]

-- the array has an element for each document, and up to a multiple of 64
pub lane_inside : (values : List (Option ℕ)) (range : Option (ℕ × ℕ)) (present : List Bool) (lanes : List ℕ) → IsColumn values range present lanes → (i : ℕ) →
    i < length values → i < length lanes
lane_inside values range present lanes h i inside = omega (arith, inside, h.lanes_are.enough, length-offsets (least_of range) values)

pub lane_each : (values : List (Option ℕ)) (range : Option (ℕ × ℕ)) (present : List Bool) (lanes : List ℕ) → IsColumn values range present lanes →
    length present ≤ length lanes
lane_each values range present lanes h =
    omega (arith, h.lanes_are.enough, length-offsets (least_of range) values, ap length h.present_is, length-map values is_some)

pub stretch_inside : (values : List (Option ℕ)) (range : Option (ℕ × ℕ)) (present : List Bool) (lanes : List ℕ) → IsColumn values range present lanes →
    (from : ℕ) → from % 64 ≡ 0 → from < length values → from + 64 ≤ length lanes
stretch_inside values range present lanes h from aligned inside =
    omega (arith, aligned, h.lanes_are.whole, lane_inside values range present lanes h from inside)

-- the presence bit says whether there is a value
pub presence-at : (values : List (Option ℕ)) (i : ℕ) → get_or (map is_some values) i false ≡ is_some (get_or values i None)
presence-at [] i = refl
presence-at (v ∷ values) zero = refl
presence-at (v ∷ values) (suc i) = presence-at values i

some_of : (v : Option ℕ) (least lane : ℕ) → IfSome v (λ x. (least ≤ x) × (least + lane ≡ x)) → is_some v ≡ true → v ≡ Some (least + lane)
some_of None least lane h there = absurd (cc)
some_of (Some x) least lane h there = ap Some (sym h.1)

none_of : (v : Option ℕ) → is_some v ≡ false → v ≡ None
none_of None missing = refl
none_of (Some x) missing = absurd (cc)

pub value_there : (values : List (Option ℕ)) (range : Option (ℕ × ℕ)) (present : List Bool) (lanes : List ℕ) (least i : ℕ) →
    IsColumn values range present lanes → least_of range ≡ least → get_or present i false ≡ true → get_or values i None ≡ Some (least + get_or lanes i 0)
value_there values range present lanes least i h least_is there =
    some_of (get_or values i None) least (get_or lanes i 0) (subst (λ n. IfSome (get_or values i None) (λ x. (n ≤ x) × (n + get_or lanes i 0 ≡ x))) least_is
    (lane_there values range present lanes h i)) (sym (presence-at values i) ∙ ap (λ bits. get_or bits i false) (sym h.present_is) ∙ there)

pub value_missing : (values : List (Option ℕ)) (present : List Bool) (i : ℕ) → map is_some values ≡ present → get_or present i false ≡ false →
    get_or values i None ≡ None
value_missing values present i present_is missing =
    none_of (get_or values i None) (sym (presence-at values i) ∙ ap (λ bits. get_or bits i false) present_is ∙ missing)
