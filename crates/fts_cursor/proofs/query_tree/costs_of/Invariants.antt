-- A cost for each part so far.
use Rattle.std.proofs.Common.{ℕ, ◌-◌, ◌^◌, ◌<◌, ◌≤◌, get_or, length, min, take}
use Rattle.std.specs.List.{AllZip}
use Rattle.std.specs.List.Sorted.{IsStrictlyIncreasing}
use Rattle.fts_cursor.specs.TreeValues.{TreeValue}
use Rattle.fts_cursor.proofs.query_tree.costs_of.Given as goal

abbrev pub invariant-loop-part : goal.invariant-loop-part
invariant-loop-part l = record {
  bounds : AllZip (λ cost part. min (2 ^ 64 - 1) (length part.remaining) ≤ cost) l.costs.items (take l.part-index l.parts);
  rise : (k : ℕ) (d : TreeValue) → k < l.part-index → IsStrictlyIncreasing (get_or l.parts k d).remaining;
}
