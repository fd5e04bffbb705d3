-- Each lane that is split off maintains the rule, and is the next new one.
use Rattle.std.proofs.Common.{rules, ◌≡◌, ℕ, ◌+◌, ◌-◌, List, [], ◌∷◌, ◌++◌, map, ap, sym, ◌∙◌, arith}
use Rattle.std.proofs.lemmas.List.FromFn.{map-range_with_len_more}
use Rattle.fts_rounds.specs.RoundsDrawn.{drawn}
use Rattle.atomic_table.specs.Seated.{TableId}
use Rattle.fts_model.specs.declared.operation.Op.{Op}
use Rattle.fts_model.specs.declared.operation.Stamped.{Stamped}
use Rattle.fts_rounds.specs.declared.stamps.RoundLimits.{RoundLimits}
use Rattle.std.specs.List.{range_with_len}
use Rattle.fts_rounds.specs.Rounds.{Held, fresh}
use Rattle.fts_rounds.proofs.RoundsStepsLemmas.{deals}
use Rattle.fts_rounds.proofs.round.open_round.Goals as goal

-- one more lane, after those that were made
made_more : (table table' mine : TableId) (limits : RoundLimits) (lane : ℕ) (ops : List (Stamped Op)) (made : List Held) →
    made ≡ map (fresh record { table = table; limits = limits }) (range_with_len 0 lane)
    → table' ≡ table → mine ≡ table → ops ≡ []
    → made ++ record { table = mine; limits = limits; lane = lane; ops = ops } ∷ [] ≡ map (fresh record { table = table'; limits = limits })
    (range_with_len 0 (lane + 1))
made_more table table' mine limits lane ops made is e e' none =
    let F : TableId → List Held = λ r. map (fresh record { table = r; limits = limits }) (range_with_len 0 (lane + 1)) in
    let last : Held = fresh record { table = table; limits = limits } lane in
    let one : record { table = mine; limits = limits; lane = lane; ops = ops } ≡ last =
    (λ i. record { table = e' i; limits = limits; lane = lane; ops = none i }) in
    ap (λ (l : List Held). l ++ record { table = mine; limits = limits; lane = lane; ops = ops } ∷ []) is
    ∙ (ap (λ (h : Held). map (fresh record { table = table; limits = limits }) (range_with_len 0 lane) ++ h ∷ []) one
    ∙ (sym (map-range_with_len_more (fresh record { table = table; limits = limits }) 0 lane lane (omega arith)) ∙ ap F (sym e)))

pub split_seat-lane_seat-requires : goal.split_seat-lane_seat-requires
split_seat-lane_seat-requires c =
    let me = c.loop-lane.invariant.me in
    let lanes : c.loop-lane.seat.me.0.lanes ≡ c.args.lanes - c.loop-lane.lane = ap (λ m. m.0.lanes) me in
    (search rules, search rules, deals _ _ _ (omega arith) (ap (λ m. m.0.stamps) me))

pub loop-lane-preserved : goal.loop-lane-preserved
loop-lane-preserved c =
    let lane : ℕ = c.loop-lane.lane in
    let limits : RoundLimits = record { round = c.args.number; first = c.args.first; lanes = c.args.lanes; cap = c.args.cap } in
    let split = c.split_seat-lane_seat.ensures in
    let same : c.split_seat-lane_seat.new.seat.table_id ≡ c.loop-lane.seat.table_id = split.0 in
    record {
      me = split.2
          ∙ (ap (λ m. (drawn m.0.limits (m.0.lanes - 1) [], m.1)) c.loop-lane.invariant.me
          ∙ ap (λ (k : ℕ). (drawn limits k [], [])) (let e : (c.args.lanes - lane) - 1 ≡ c.args.lanes - (lane + 1) = omega arith in e));
      table = search rules;
      one_word = search rules;
      dealt = c.push_reserved.ensures.items ∙ made_more c.loop-lane.seat.table_id c.split_seat-lane_seat.new.seat.table_id
          c.split_seat-lane_seat.result.table_id limits lane
          c.new-in-loop-lane.result.items c.loop-lane.dealt.items c.loop-lane.invariant.dealt same split.3 (search rules);
      room = search rules;
    }
