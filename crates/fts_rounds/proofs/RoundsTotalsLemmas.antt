-- The greatest number of stamps that the views of all seats have.
use Rattle.std.proofs.Common.{ℕ, suc, ◌*◌, ◌≤◌, List, [], ◌∷◌, refl, arith}
use Rattle.std.proofs.Math.Nat.{add-mul}
use Rattle.fts_base.proofs.TotalsLemmas.{Each}
use Rattle.fts_rounds.specs.declared.stamps.RoundLimits.{RoundLimits}
use Rattle.fts_rounds.specs.declared.stamps.Drawn.{Drawn}
use Rattle.fts_rounds.specs.RoundsDrawn.{lane_count, stamp_count, Fits}

-- the views have at most `cap` stamps per lane together
pub count_le : (t : RoundLimits) (next : ℕ) (views : List Drawn) → Each (Fits t next) views → stamp_count views ≤ lane_count views * t.cap
count_le t next [] fit = omega arith
count_le t next (x ∷ xs) fit =
    let here = (fit 0 x refl).most in
    let rest = count_le t next xs (λ id v at. fit (suc id) v at) in
    omega (arith, add-mul x.lanes (lane_count xs) t.cap)
