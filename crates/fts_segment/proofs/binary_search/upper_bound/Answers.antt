-- A number that is at most another is below the next.
use Rattle.std.proofs.Common.{◌≡◌, ◌+◌, ℕ, subst, arith}
use Rattle.fts_segment.specs.Between.{IsCut}
use Rattle.fts_segment.proofs.binary_search.upper_bound.Goals as goal

pub returns-in-Some : goal.returns-in-Some
returns-in-Some c =
    let next : c.in-Some.above ≡ c.args.number + 1 = omega (arith, c.in-Some.ensures) in
    subst (λ (above : ℕ). IsCut c.args.numbers.now above c.lower_bound.result) next c.lower_bound.ensures
