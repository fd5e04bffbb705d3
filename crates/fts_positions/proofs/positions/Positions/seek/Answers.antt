-- The next position tells whether this one is left.
use Rattle.std.proofs.Common.{◌==◌, ℕ, Bor, List, Option, ap, subst, ◌∙◌, arith}
use Rattle.std.specs.Prelude.{slice_range}
use Rattle.fts_positions.specs.PositionLists.{positions_from}
use Rattle.fts_positions.specs.PositionsLeft.{AreSameFrom, positions_left}
use Rattle.fts_positions.proofs.SeekLemmas.{found-first}
use Rattle.fts_positions.proofs.positions.Positions.seek.Goals as goal

pub returns-then-position-first-clause-has : goal.returns-then-position-first-clause-has
returns-then-position-first-clause-has c =
    let s = c.loop-self.self in
    let old = positions_left c.args.self.now in
    let P : Option (ℕ × Bor (List ℕ)) → Type 0 = λ first. AreSameFrom c.args.position (positions_from first s.at s.end) old in
    ap (λ n. n == c.args.position) c.from-first.ensures
    ∙ found-first c.args.position c.in-Some.first (slice_range c.in-Some._gaps.now s.at s.end) old
    (omega (arith, c.if-position-first.true, c.from-first.ensures)) (subst P c.in-Some.is c.loop-self.invariant)
