-- What a script reads from and writes to, and what the result of a call says of it.
use Rattle.std.specs.Prelude.{ℕ, ◌≡◌, ◌&&◌, ◌==◌, Bool, true, false, nat_lt, Result, Ok, Err, List, [], ◌++◌}
use Rattle.std.specs.Prelude.{take, Option}
use Rattle.std.specs.Io.KnownBytes.{Consumes, Appends}

-- the bytes of the buffer that a call gave or took: the first n
abbrev pub bytes_moved : {E : Type 0} → Result ℕ E → List ℕ → List ℕ
bytes_moved (Ok n) buffer = take n buffer
bytes_moved (Err e) buffer = []

-- a read reports the end: its buffer wasn't empty, and it gave no byte
abbrev pub tells_end : {E : Type 0} → Result ℕ E → ℕ → Bool
tells_end (Ok n) room = n == 0 && nat_lt 0 room
tells_end (Err e) room = false

-- a call failed, or it was given a byte and took none
abbrev pub takes_none : {E : Type 0} → Result ℕ E → ℕ → Bool
takes_none (Ok n) given = n == 0 && nat_lt 0 given
takes_none (Err e) given = true

-- what the calls of a reader gave so far
pub record ReadsValue : Type 0 where
  -- the bytes that reads gave
  pub given : List ℕ
  -- the bytes that the latest read gave
  pub latest : List ℕ
  -- the bytes that are left to read, if they are known
  pub remaining : Option (List ℕ)
  -- how many reads reported the end: their buffer wasn't empty, and they gave no byte
  pub ends : ℕ
  -- the number of reads that failed
  pub failed : ℕ

-- what the calls of a writer took so far
pub record WritesValue : Type 0 where
  -- the bytes that writes took
  pub taken : List ℕ
  -- the bytes that the writer holds, if they are known
  pub held : Option (List ℕ)
  -- the number of writes and flushes that failed: with an error, or with bytes given and none taken
  pub failed : ℕ
  -- the number of flushes that succeeded
  pub flushes : ℕ
  -- the bytes that writes had taken when the latest successful flush was made
  pub flushed : List ℕ

-- what the calls of a script's reader and writer gave and took so far
abbrev pub StreamsValue : Type 0
StreamsValue = ReadsValue × WritesValue

-- A writer had taken `before` and has now taken `now`: P holds of what came after `before`.
pub record Wrote (before now : List ℕ) (P : List ℕ → Type 0) : Type 0 where
  pub bytes : List ℕ
  pub taken : now ≡ before ++ bytes
  pub so : P bytes

-- What a reader gave is what it lost of its remaining bytes, if these are known.
pub record LosesGiven (before now : List ℕ) (unread left : Option (List ℕ)) : Type 0 where
  pub input : List ℕ
  pub given : now ≡ before ++ input
  pub lost : Consumes unread left input

-- What a writer took is what it gained in the bytes that it holds, if these are known.
pub record GainsTaken (before now : List ℕ) (held holds : Option (List ℕ)) : Type 0 where
  pub out : List ℕ
  pub taken : now ≡ before ++ out
  pub gained : Appends held holds out
