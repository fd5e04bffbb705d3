-- The tests of the bits so far.
use Rattle.std.proofs.Common.{◌≡◌, ℕ, take}
use Rattle.fts_sets.specs.Leaves.{all_have, in_each, in_one, one_has}
use Rattle.fts_sets.proofs.leaf.leaves_of.Given as goal

abbrev pub invariant-loop-bits : goal.invariant-loop-bits
invariant-loop-bits l = record {
  one : (d : ℕ) → one_has l.leaves.items d ≡ in_one (take l.bits-index l.list) d;
  all : (d : ℕ) → all_have l.leaves.items d ≡ in_each (take l.bits-index l.list) d;
}
