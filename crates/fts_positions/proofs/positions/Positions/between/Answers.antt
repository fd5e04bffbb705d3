-- The first gap is decoded.
use Rattle.std.proofs.Common.{◌≡◌, ◌+◌, ◌^◌, ◌<◌, ◌≤◌, ℕ, All, Bor, List, length, sym, subst, ◌∙◌, arith}
use Rattle.fts_positions.proofs.PackedLemmas.{ComesNext, comes_next}
use Rattle.fts_positions.proofs.positions.Positions.between.Goals as goal

next : (c : goal.After-from) → ComesNext c.args.gaps.now c.args.at c.args.end c.args.next c.from.result
next c =
    comes_next c.args.gaps.now c.args.at c.args.end c.args.next c.from.result (omega (arith, c.if-at-end.false)) c.requires.within
    (c.from.ensures ∙ c.get.ensures) c.requires.fit

pub overflow_add-first : goal.overflow_add-first
overflow_add-first c = omega (arith, (next c).fits)

pub overflow_cast-result : goal.overflow_cast-result
overflow_cast-result c = omega (arith, (next c).fits)

pub invariant_of-result : goal.invariant_of-result
invariant_of-result c = let n = next c in record {
  within = λ first is. let same : (c.args.next + c.from.result, c.args.gaps) ≡ first = cc in
      subst (λ (f : ℕ × Bor (List ℕ)). c.args.end ≤ length f.1.now) same c.requires.within;
  fit = subst (All (λ p. p < 2 ^ 32)) n.is c.requires.fit;
}

pub returns : goal.returns
returns c =
    sym (comes_next c.args.gaps.now c.args.at c.args.end c.args.next c.from.result (omega (arith, c.if-at-end.false)) c.requires.within
    (c.from.ensures ∙ c.get.ensures) c.requires.fit).is
