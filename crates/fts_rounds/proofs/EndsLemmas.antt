-- If no lane is missing, there are as many ends as lanes.
use Rattle.std.proofs.Common.{◌≡◌, ℕ, ◌<◌, ◌≤◌, List, [], ◌∷◌, length, All, sym, ◌∙◌}
use Rattle.std.proofs.lemmas.List.{length-map}
use Rattle.std.proofs.lemmas.List.Elements.{All-head, All-tail}
use Rattle.fts_base.specs.Totals.{times}
use Rattle.fts_rounds.specs.Rounds.{AllBelow, Held, IsLaneOf, Opened, lanes_of}
use Rattle.fts_rounds.proofs.RoundsOrderLemmas.{length_each_once}

below_lanes : (r : Opened) (ends : List Held) → All (IsLaneOf r) ends → AllBelow r.limits.lanes (lanes_of ends)
below_lanes r [] all = tt
below_lanes r (e ∷ es) all = let head = All-head (IsLaneOf r) e es all in (head.2, below_lanes r es (All-tail (IsLaneOf r) e es all))

pub as_many : (r : Opened) (ends : List Held) → All (IsLaneOf r) ends → ((n : ℕ) → times n (lanes_of ends) ≤ 1) →
    ((k : ℕ) → k < r.limits.lanes → 0 < times k (lanes_of ends)) → length ends ≡ r.limits.lanes
as_many r ends all once some = sym (length-map ends (λ h. h.lane)) ∙ length_each_once r.limits.lanes (lanes_of ends) (below_lanes r ends all) once some
