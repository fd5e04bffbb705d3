-- If no lane is missing, there are as many ends as lanes.
use Rattle.std.proofs.Common.{◌≡◌, ℕ, ◌<◌, List, [], ◌∷◌, length, All, ap, sym, subst, arith}
use Rattle.std.proofs.lemmas.List.Elements.{All-head}
use Rattle.fts_base.specs.Totals.{times}
use Rattle.fts_rounds.specs.Rounds.{Held, IsLaneOf, lanes_of}
use Rattle.fts_rounds.proofs.EndsLemmas.{as_many}
use Rattle.fts_rounds.proofs.round.Round.gather.Goals as goal

pub alone-requires-clause-one : goal.alone-requires-clause-one
alone-requires-clause-one c =
    let same : c.self.inside.limits.lanes ≡ c.args.self.limits.lanes = ap (λ r. r.limits.lanes) c.self.view_is in
    let some : (k : ℕ) → k < c.args.self.limits.lanes → 0 < times k (lanes_of c.args.ends.items) =
    λ k lt. subst (λ (l : List Held). 0 < times k (lanes_of l)) c.deref.ensures.value (c.in_default.ensures k (omega arith)) in
    let count = as_many c.args.self c.args.ends.items c.requires.lanes c.requires.each_once some in
    omega (arith, count, ap length c.in-Ok.ensures)

pub alone-requires-clause-lane : goal.alone-requires-clause-lane
alone-requires-clause-lane c = All-head (IsLaneOf c.args.self) c.in-Ok.end [] (subst (All (IsLaneOf c.args.self)) c.in-Ok.ensures c.requires.lanes)

pub gather_all-requires-clause-none_missing : goal.gather_all-requires-clause-none_missing
gather_all-requires-clause-none_missing c =
    let same : c.self.inside.limits.lanes ≡ c.args.self.limits.lanes = ap (λ r. r.limits.lanes) c.self.view_is in
    let some : (k : ℕ) → k < c.args.self.limits.lanes → 0 < times k (lanes_of c.args.ends.items) =
    λ k lt. subst (λ (l : List Held). 0 < times k (lanes_of l)) c.deref.ensures.value (c.in_default.ensures k (omega arith)) in
    λ n lt. subst (λ (l : List Held). 0 < times n (lanes_of l)) (sym (ap (λ v. v.items) c.in-Err.ensures)) (some n lt)
