-- Documents that are taken from the front of a list, some at a time.
use Rattle.std.specs.Prelude.{◌≡◌, ℕ, ◌+◌, ◌<◌, ◌≤◌, List, ◌++◌, drop, length, take}

-- the first this many of what was left, at least one if there was any, are at the front of an array, and are left no
-- more
pub record Takes (left next written : List ℕ) (count : ℕ) : Type 0 where
  pub some : 0 < length left → 0 < count
  pub few : count ≤ 128
  pub within : count ≤ length left
  pub taken : take count written ≡ take count left
  pub left_is : next ≡ drop count left

-- some of the next documents were written after those that filled the front
pub record IsStretch (left next out written : List ℕ) (filled count : ℕ) : Type 0 where
  pub some : 0 < length left → 0 < count
  pub within : count ≤ length left
  pub room : filled + count ≤ 128
  pub front : take (filled + count) written ≡ take filled out ++ take count left
  pub left_is : next ≡ drop count left
