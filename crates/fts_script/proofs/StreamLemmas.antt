-- What calls of a stream add up to.
use Rattle.std.proofs.Common.{◌≡◌, ℕ, Result, Ok, Err, List, ◌++◌, Option, ap, ◌∙◌, append_assoc, append-nil, take}
use Rattle.std.proofs.KnownBytes.{Appends-trans, Appends-kept, Consumes-trans, Consumes-kept}
use Rattle.std.specs.Io.KnownBytes.{Keeps, ReadConsumes, WriteAppends}
use Rattle.fts_script.specs.Streams.{bytes_moved, GainsTaken, LosesGiven}

-- two lists appended to a first one are one list appended to it
pub append_more : (a b c bs cs : List ℕ) → b ≡ a ++ bs → c ≡ b ++ cs → c ≡ a ++ (bs ++ cs)
append_more a b c bs cs e f = f ∙ ap (λ v. v ++ cs) e ∙ append_assoc a bs cs

-- one read more
pub LosesGiven-read : {E : Type 0} (result : Result ℕ E) (buffer a b c : List ℕ) (x y z : Option (List ℕ)) →
    LosesGiven a b x y → c ≡ b ++ bytes_moved result buffer → ReadConsumes y z result buffer → LosesGiven a c x z
LosesGiven-read (Ok n) buffer a b c x y z h e k = record {
  input = h.input ++ take n buffer;
  given = append_more a b c h.input (take n buffer) h.given e;
  lost = Consumes-trans x y z h.input (take n buffer) h.lost k.0;
}
LosesGiven-read (Err error) buffer a b c x y z h e k = record {
  input = h.input;
  given = e ∙ append-nil b ∙ h.given;
  lost = Consumes-kept x y z h.input h.lost k;
}

-- the calls of two functions
pub GainsTaken-trans : (a b c : List ℕ) (x y z : Option (List ℕ)) → GainsTaken a b x y → GainsTaken b c y z → GainsTaken a c x z
GainsTaken-trans a b c x y z h k = record {
  out = h.out ++ k.out;
  taken = append_more a b c h.out k.out h.taken k.taken;
  gained = Appends-trans x y z h.out k.out h.gained k.gained;
}

-- a flush more
pub GainsTaken-kept : (a b c : List ℕ) (x y z : Option (List ℕ)) → GainsTaken a b x y → c ≡ b → Keeps y z → GainsTaken a c x z
GainsTaken-kept a b c x y z h e k = record { out = h.out; taken = e ∙ h.taken; gained = Appends-kept x y z h.out h.gained k }

-- one write more
pub GainsTaken-write : {E : Type 0} (result : Result ℕ E) (bytes a b c : List ℕ) (x y z : Option (List ℕ)) →
    GainsTaken a b x y → c ≡ b ++ bytes_moved result bytes → WriteAppends y z result bytes → GainsTaken a c x z
GainsTaken-write (Ok n) bytes a b c x y z h e k = GainsTaken-trans a b c x y z h (record { out = take n bytes; taken = e; gained = k })
GainsTaken-write (Err error) bytes a b c x y z h e k = GainsTaken-kept a b c x y z h (e ∙ append-nil b) k
