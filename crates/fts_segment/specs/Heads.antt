-- The heads of names, which decide most comparisons without their bytes.
use Rattle.std.specs.Prelude.{◌≡◌, ◌+◌, ◌*◌, ◌^◌, ◌<◌, ℕ, zero, suc, List, [], ◌∷◌, All, map, slice_index}

-- the first n bytes of a name as one big-endian number, padded with zeros
unfoldable pub head : ℕ → List ℕ → ℕ
head zero bytes = 0
head (suc n) [] = 0
head (suc n) (byte ∷ bytes) = byte * 256 ^ n + head n bytes

-- each number is a byte
abbrev pub AreBytes : List ℕ → Type 0
AreBytes bytes = (i : ℕ) → slice_index bytes i < 256

-- the bytes of a name
abbrev pub NameBytes : Type 0
NameBytes = List ℕ

-- a number is the head of a name, which is a list of bytes
pub record IsHead (number : ℕ) (name : List ℕ) : Type 0 where
  pub is : number ≡ head 8 name
  pub bytes : AreBytes name

-- numbers are the heads of names, which are lists of bytes
pub record AreHeads (heads : List ℕ) (names : List (List ℕ)) : Type 0 where
  pub are : heads ≡ map (head 8) names
  pub bytes : All AreBytes names
