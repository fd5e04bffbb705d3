-- Each end is merged by the rule; once all are merged, the load shows that no stamp is missing.
use Rattle.std.proofs.Common.{rules, ◌≡◌, ◌+◌, List, [], ◌∷◌, ◌++◌, length, vec_len, ap, sym, subst, ◌∙◌, arith, length-append, append-nil}
use Rattle.std.specs.Prelude.{Some}
use Rattle.std.proofs.lemmas.List.Elements.{All-pop}
use Rattle.std.proofs.lemmas.Grind.{flat_map-append}
use Rattle.std.proofs.lemmas.List.{length-map}
use Rattle.std.proofs.lemmas.List.Sorted.{IsNonDecreasingBy-from_sort_by_key, length_permutation}
use Rattle.fts_model.specs.declared.operation.Op.{Op}
use Rattle.fts_model.specs.declared.operation.Stamped.{Stamped}
use Rattle.fts_rounds.specs.declared.stamps.RoundLimits.{RoundLimits}
use Rattle.fts_rounds.specs.RoundsDrawn.{drawn}
use Rattle.std.specs.List.{range_with_len}
use Rattle.fts_model.specs.Operations.{stamps_of}
use Rattle.fts_rounds.specs.Rounds.{Held, IsLaneOf, Rises}
use Rattle.fts_rounds.specs.Shuffles.{IsShuffle, submissions}
use Rattle.fts_rounds.proofs.RoundsStepsLemmas.{collects, looks}
use Rattle.fts_rounds.proofs.RoundsMergingLemmas.{goes_in, done_rise, done_members, done_seat, told}
use Rattle.fts_rounds.proofs.ShufflesLemmas.{shuffled, one_lane_is}
use Rattle.fts_rounds.proofs.round.Round.merge.Goals as goal

submitted_more : (ends : List Held) (end : Held) → length (submissions (ends ++ end ∷ [])) ≡ length (submissions ends) + length end.ops
submitted_more ends end = ap length (flat_map-append (λ (h : Held). h.ops) ends (end ∷ []))
    ∙ (length-append (submissions ends) (end.ops ++ []) ∙ ap (λ (l : List (Stamped Op)). length (submissions ends) + length l) (append-nil end.ops))

pub join_seat-requires : goal.join_seat-requires
join_seat-requires c =
    let me = c.ended.invariant.2 in
    let lanes : c.ended.inside.seat.me.0.lanes ≡ 1 = ap (λ m. m.0.lanes) me in
    let popped = All-pop (IsLaneOf c.args.self) c.loop-end.ends.items c.pop.new.self.items (Some c.in-Some.end) c.in-Some.ensures.items
    c.loop-end.invariant.lanes in
    let round : c.ended.inside.seat.table_id ≡ c.args.self.table = ap (λ h. h.table) (c.ended.view_is ∙ c.end.view_is) ∙ popped.1.0 in (
      search rules,
      round ∙ (sym c.loop-end.invariant.round ∙ (c.loop-end.invariant.table ∙ sym (ap (λ t. t.shared.table_id) c.deref.ensures))),
      ap (λ m. m.1) me,
      search rules,
      collects _ _ _ _ _ (omega arith),
    )

pub loop-end-preserved : goal.loop-end-preserved
loop-end-preserved c =
    let end : Held = c.in-Some.end in
    let limits : RoundLimits = c.self.inside.limits in
    let popped = All-pop (IsLaneOf c.args.self) c.loop-end.ends.items c.pop.new.self.items (Some end) c.in-Some.ensures.items c.loop-end.invariant.lanes in
    let view = c.ended.view_is ∙ c.end.view_is in
    let list = ap (λ h. h.ops) view in
    let same_limits : c.ended.inside.limits ≡ limits = ap (λ h. h.limits) view ∙ (popped.1.1 ∙ sym (ap (λ r. r.limits) c.self.view_is)) in
    let more : c.append.new.self.items ≡ c.loop-end.ops.items ++ end.ops = c.in-Ok.ensures.items ∙ ap (λ l. c.loop-end.ops.items ++ l) list in
    record {
      state = goes_in c.args.ends.items c.loop-end.ends.items c.pop.new.self.items end c.loop-end.ops.items c.append.new.self.items limits
          c.loop-end.seat.me c.join_seat.new.seat.me c.ended.inside.seat.me
          c.loop-end.invariant.state
          c.in-Some.ensures.items
          (subst Rises (ap stamps_of list) c.ended.invariant.3)
          more
          (c.ended.invariant.2 ∙ (ap (λ t. (drawn t 1 (stamps_of c.ended.inside.ops.items), [])) same_limits ∙ ap (λ l. (drawn limits 1 (stamps_of l), []))
          list))
          c.join_seat.ensures.2;
      lanes = popped.0;
      table = search rules;
      round = search rules;
      limits = search rules;
      some_lane = search rules;
      one_word = search rules;
      room = (
          let grown = c.in-Ok.ensures.len in
          let cap = c.in-Ok.ensures.capacity in
          let had = c.loop-end.invariant.room in
          let split : length (submissions c.loop-end.ends.items) ≡ length (submissions c.pop.new.self.items) + length end.ops
          = ap (λ l. length (submissions l)) c.in-Some.ensures.items ∙ submitted_more c.pop.new.self.items end in
          let count : vec_len c.ended.inside.ops ≡ length end.ops = c.ended.inside.ops.ok.0 ∙ ap length list in
          omega arith);
    }

pub load-requires : goal.load-requires
load-requires c =
    let none : length c.loop-end.ends.items ≡ 0 = sym c.loop-end.ends.ok.0 ∙ c.in_default.ensures.cases.0 in
    let seat = done_seat c.args.ends.items c.loop-end.ends.items c.loop-end.ops.items c.self.inside.limits c.loop-end.seat.me c.loop-end.invariant.state none in
    let lanes : c.loop-end.seat.me.0.lanes ≡ length c.args.ends.items = ap (λ m. m.0.lanes) seat in
    let all = c.requires.all in
    let some = c.loop-end.invariant.some_lane in
    let limits : c.self.inside.limits.lanes ≡ c.args.self.limits.lanes = ap (λ r. r.limits.lanes) c.self.view_is in
    let count : vec_len c.args.ends ≡ length c.args.ends.items = c.args.ends.ok.0 in
    (search rules, search rules, looks _ _ _ _ (omega arith))

pub returns-clause-shuffle : goal.returns-clause-shuffle
returns-clause-shuffle c =
    let none : length c.loop-end.ends.items ≡ 0 = sym c.loop-end.ends.ok.0 ∙ c.in_default.ensures.cases.0 in
    let state = c.loop-end.invariant.state in
    let seat = done_seat c.args.ends.items c.loop-end.ends.items c.loop-end.ops.items c.self.inside.limits c.loop-end.seat.me state none in
    let limits = ap (λ r. r.limits) c.self.view_is in
    let whole : length c.args.ends.items ≡ c.self.inside.limits.lanes =
    sym c.args.ends.ok.0 ∙ (c.requires.all ∙ sym (ap (λ r. r.limits.lanes) c.self.view_is)) in
    let shuffle = shuffled c.self.inside.limits.first c.args.ends.items c.loop-end.ops.items c.sort_unstable_by_key.new.self.items
    (done_rise c.args.ends.items c.loop-end.ends.items c.loop-end.ops.items c.self.inside.limits c.loop-end.seat.me state none)
    (done_members c.args.ends.items c.loop-end.ends.items c.loop-end.ops.items c.self.inside.limits c.loop-end.seat.me state none)
    (told c.self.inside.limits (length c.args.ends.items) (stamps_of c.loop-end.ops.items) c.loop-end.seat.me seat whole c.load.ensures.2.1).each_once
    c.sort_unstable_by_key.ensures.permutation
    (IsNonDecreasingBy-from_sort_by_key (λ s. s.stamp) c.sort_unstable_by_key.new.self.items c.sort_unstable_by_key.ensures.sorted (λ a r q k. search rules)) in
    subst (λ (t : RoundLimits). IsShuffle t.first c.sort_unstable_by_key.new.self.items c.args.ends.items) limits shuffle

pub invariant_of-result : goal.invariant_of-result
invariant_of-result c =
    let none : length c.loop-end.ends.items ≡ 0 = sym c.loop-end.ends.ok.0 ∙ c.in_default.ensures.cases.0 in
    let seat = done_seat c.args.ends.items c.loop-end.ends.items c.loop-end.ops.items c.self.inside.limits c.loop-end.seat.me c.loop-end.invariant.state none in
    let whole : length c.args.ends.items ≡ c.self.inside.limits.lanes =
    sym c.args.ends.ok.0 ∙ (c.requires.all ∙ sym (ap (λ r. r.limits.lanes) c.self.view_is)) in
    let all = told c.self.inside.limits (length c.args.ends.items) (stamps_of c.loop-end.ops.items) c.loop-end.seat.me seat whole c.load.ensures.2.1 in
    let small = all.small in
    let count = length-map c.loop-end.ops.items (λ s. s.stamp) in
    let sorted = length_permutation c.loop-end.ops.items c.sort_unstable_by_key.new.self.items c.sort_unstable_by_key.ensures.permutation in (
      subst (λ (t : RoundLimits). stamps_of c.sort_unstable_by_key.new.self.items ≡ range_with_len t.first (length c.sort_unstable_by_key.new.self.items))
          (sym (ap (λ r. r.limits) c.self.view_is)) (returns-clause-shuffle c).numbered,
      omega arith,
    )

pub returns-clause-alone : goal.returns-clause-alone
returns-clause-alone c e is =
    one_lane_is c.args.self.limits.first c.sort_unstable_by_key.new.self.items e
    (subst (IsShuffle c.args.self.limits.first c.sort_unstable_by_key.new.self.items) is (returns-clause-shuffle c))
