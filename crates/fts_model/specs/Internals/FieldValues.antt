-- Values that may be absent: those that are there, and one bit for each that may be.
use Rattle.std.specs.Prelude.{◌≡◌, ◌≤◌, ℕ, zero, suc, ◌/◌, ◌%◌, ◌==◌, List, [], ◌∷◌, length, map, drop, Option, None}
use Rattle.std.specs.Prelude.{is_some, slice_get, if◌then◌else◌}
use Rattle.std.specs.List.{filter_map}
use Rattle.std.specs.Simd.Lanes.{mask_l}

-- one bit for each value, the first value's lowest: whether it is there
abbrev pub present_bits : {X : Type 0} → List (Option X) → ℕ
present_bits vs = mask_l (map is_some vs)

-- the values that are there, in order
abbrev pub present_values : {X : Type 0} → List (Option X) → List X
present_values vs = filter_map (λ v. v) vs

-- `n` values or none, of their bits and the values that are there
abbrev pub spread : {X : Type 0} → ℕ → ℕ → List X → List (Option X)
spread zero bits vs = []
spread (suc n) bits vs =
    if bits % 2 == 0 then None ∷ spread n (bits / 2) vs
    else slice_get vs 0 ∷ spread n (bits / 2) (drop 1 vs)

-- at most 32 values or none, packed: their bits, and the values that are there
pub record ArePacked {X : Type 0} (vs : List (Option X)) (bits : ℕ) (packed : List X) : Type 0 where
  pub few : length vs ≤ 32
  pub bits_are : bits ≡ present_bits vs
  pub values_are : packed ≡ present_values vs
