-- What contracts see of a posting cursor.
use Rattle.std.specs.Prelude.{◌≡◌, ℕ, suc, ◌+◌, ◌^◌, ◌<◌, ◌≤◌, List, [], ◌++◌, drop, length, min, slice_index_or, take}
use Rattle.std.specs.Prelude.{◌&&◌, ◌==◌, nat_lt, if◌then◌else◌}
use Rattle.std.specs.List.{flat_map}

-- A cursor over blocks: the block in which it is (their number at the end), its place there, how many blocks it
-- opened since it was made, and the count of its source, which every opening raises.
pub record Posting : Type 0 where
  pub blocks : List (List ℕ)
  pub block : ℕ
  pub at : ℕ
  pub opened : ℕ
  pub count : ℕ

-- the block in which it is
abbrev pub here : Posting → List ℕ
here p = slice_index_or p.blocks p.block []

-- what is still to come
abbrev pub remaining_of : Posting → List ℕ
remaining_of p = drop p.at (here p) ++ flat_map (λ block. block) (drop (suc p.block) p.blocks)

-- all members of its list
abbrev pub members_of : Posting → List ℕ
members_of p = flat_map (λ block. block) p.blocks

-- the blocks up to the one in which it is: all of them at the end
abbrev pub blocks_reached : Posting → ℕ
blocks_reached p = min (suc p.block) (length p.blocks)

-- 1 if a step passes the open block's end and another follows, otherwise 0
abbrev pub opened_by_step : Posting → ℕ
opened_by_step p = if (suc p.at == length (here p)) && nat_lt (suc p.block) (length p.blocks) then 1 else 0

-- a later state of a cursor over a list: each opening since was counted by the source, and by the cursor
pub record Follows (old new : Posting) : Type 0 where
  pub blocks : new.blocks ≡ old.blocks
  pub more : old.opened ≤ new.opened
  pub counted : new.count + old.opened ≡ old.count + new.opened

-- a later state of a cursor over a list, if each block that was reached since was opened
pub record Walks (old new : Posting) : Type 0 where
  pub follows : Follows old new
  pub each : new.opened + blocks_reached old ≡ old.opened + blocks_reached new

-- how the fields fit together: the open block is at the front of the array
pub record IsPosting (blocks : List (List ℕ)) (block at len opened : ℕ) (numbers : List ℕ) : Type 0 where
  pub fits : length blocks < 2 ^ 64
  pub within : block ≤ length blocks
  pub size : len ≡ length (slice_index_or blocks block [])
  pub numbers_are : take len numbers ≡ slice_index_or blocks block []
  pub stands : block < length blocks → at < len
  pub bound : opened ≤ min (suc block) (length blocks)
