-- The sum so far, or its greatest value.
use Rattle.std.proofs.Common.{◌≡◌, ◌+◌, ◌-◌, ◌^◌, min, take}
use Rattle.std.specs.List.{sum_by}
use Rattle.fts_postings.proofs.conjunction.Conjunction.openings.Given as goal

abbrev pub invariant-loop-other : goal.invariant-loop-other
invariant-loop-other g l = l.sum ≡ min (2 ^ 64 - 1) (l.self.lead.opened + sum_by (λ p. p.opened) (take l.other-index l.other-items))
