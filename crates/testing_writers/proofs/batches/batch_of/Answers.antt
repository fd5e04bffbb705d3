-- The one end is that of the one lane.
use Rattle.std.proofs.Common.{◌≡◌, List, [], ◌∷◌, ◌++◌, length, length-append, get_or, ap, sym, subst, ◌∙◌, arith}
use Rattle.std.specs.Prelude.{All}
use Rattle.std.proofs.lemmas.List.Elements.{All-from_recursion}
use Rattle.fts_rounds.specs.Rounds.{Opened, Held, IsLaneOf, SameLane, fresh}
use Rattle.testing_writers.proofs.batches.batch_of.Goals as goal

last_one : (xs : List Held) (x y : Held) → x ∷ [] ≡ xs ++ y ∷ [] → y ≡ x
last_one [] x y e = sym (ap (λ (l : List Held). get_or l 0 x) e)
last_one (z ∷ zs) x y e = absurd (omega (arith, ap length e, length-append zs (y ∷ [])))

one_end : (r : Opened) (ends : List Held) (end lane : Held) → ends ≡ end ∷ [] → lane ≡ fresh r 0 → SameLane lane end → r.limits.lanes ≡ 1 →
    All (IsLaneOf r) ends
one_end r ends end lane e l s n = subst (All (IsLaneOf r)) (sym e) (All-from_recursion (IsLaneOf r) (end ∷ []) (
  (
    s.0 ∙ ap (λ (h : Held). h.table) l,
    s.1 ∙ ap (λ (h : Held). h.limits) l,
    (let number = s.2 ∙ ap (λ (h : Held). h.lane) l in omega (arith, number, n)),
  ),
  tt,
))

pub gather-requires-clause-lanes : goal.gather-requires-clause-lanes
gather-requires-clause-lanes c =
    one_end c.in_ok-round.round c.in_ok-ends.ends.items c.in_ok-end.end c.in-Some.lane c.in_ok-ends.ensures.items
    (last_one c.pop.new.self.items (fresh c.in_ok-round.round 0) c.in-Some.lane (sym c.in_ok-round.ensures.lanes ∙ c.in-Some.ensures.items))
    c.in_ok-end.ensures (ap (λ t. t.lanes) c.in_ok-round.ensures.round)
