-- Signed 64-bit numbers as unsigned ones in the same order.
use Rattle.std.specs.Prelude.{ℕ, ◌+◌, ◌-◌, ◌^◌, ℤ, pos, negsuc, nat_lt, if◌then◌else◌}

-- a signed number plus 2 ^ 63, so that the least becomes 0
abbrev pub u64_of : ℤ → ℕ
u64_of (pos n) = n + 2 ^ 63
u64_of (negsuc n) = 2 ^ 63 - 1 - n

-- an unsigned number less 2 ^ 63, so that 0 becomes the least
abbrev pub i64_of : ℕ → ℤ
i64_of n = if nat_lt n (2 ^ 63) then negsuc (2 ^ 63 - 1 - n) else pos (n - 2 ^ 63)
