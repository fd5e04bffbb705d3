-- A column: an optional value for each document.
use Rattle.std.specs.Prelude.{◌≡◌, ℕ, ◌+◌, ◌-◌, ◌^◌, ◌<◌, ◌≤◌, ◌&&◌, nat_le, false, Bool, List, [], ◌∷◌, Option, Some}
use Rattle.std.specs.Prelude.{None, All, Contains, IfSome, is_some, length, map, max, min, if◌then◌else◌}
use Rattle.std.specs.Option.{option_map_or}
use Rattle.fts_pack.specs.column.OffsetArray.{AreLanesOf}

-- the least and greatest value, or none if there is no value
abbrev pub IsRangeOf : List (Option ℕ) → Option (ℕ × ℕ) → Type 0
IsRangeOf values None = All (λ v. v ≡ None) values
IsRangeOf values (Some range) =
    Contains values (Some range.0) × Contains values (Some range.1)
    × All (λ v. IfSome v (λ x. (range.0 ≤ x) × (x ≤ range.1))) values

-- the least range that includes a range and one more value
abbrev pub range_with : Option (ℕ × ℕ) → ℕ → ℕ × ℕ
range_with None x = (x, x)
range_with (Some range) x = (min range.0 x, max range.1 x)

-- the least value, or 0 if there is none
abbrev pub least_of : Option (ℕ × ℕ) → ℕ
least_of None = 0
least_of (Some range) = range.0

-- the difference of the greatest and the least value
abbrev pub spread_of : Option (ℕ × ℕ) → ℕ
spread_of None = 0
spread_of (Some range) = range.1 - range.0

-- the offset of each value from the least, and 0 for a missing value
abbrev pub offsets : ℕ → List (Option ℕ) → List ℕ
offsets least values = map (λ v. option_map_or (λ x. x - least) v 0) values

-- values of at most 2^32 documents, whose offsets from the least have at most `width` bits
pub record HaveOffsets (least width : ℕ) (values : List (Option ℕ)) : Type 0 where
  pub few : length values ≤ 2 ^ 32
  pub above : All (λ v. IfSome v (λ x. least ≤ x)) values
  pub fits : All (λ x. x < 2 ^ width) (offsets least values)

-- the values with these offsets, if they are present
abbrev pub values_at : ℕ → List Bool → List ℕ → List (Option ℕ)
values_at least (bit ∷ present) (x ∷ numbers) =
    (if bit then Some (least + x) else None) ∷ values_at least present numbers
values_at least (bit ∷ present) [] = []
values_at least [] numbers = []

-- whether there is a value, and it is within bounds
abbrev pub is_within : ℕ → ℕ → Option ℕ → Bool
is_within low high None = false
is_within low high (Some x) = nat_le low x && nat_le x high

-- the fields of a column store these values
pub record IsColumn
    (values : List (Option ℕ)) (range : Option (ℕ × ℕ)) (present : List Bool) (lanes : List ℕ) : Type 0 where
  pub few : length values ≤ 2 ^ 32
  pub range_is : IsRangeOf values range
  pub range_fits : IfSome range (λ r. r.1 < 2 ^ 64)
  pub present_is : present ≡ map is_some values
  pub lanes_are : AreLanesOf (offsets (least_of range) values) lanes
