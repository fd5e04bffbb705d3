-- The only end is merged by the rule; the load shows that no stamp is missing.
use Rattle.std.proofs.Common.{rules, ◌≡◌, ◌+◌, ◌<◌, [], ◌∷◌, length, sym, ap, subst, ◌∙◌, arith}
use Rattle.std.proofs.lemmas.List.{length-map}
use Rattle.std.specs.List.{range_with_len}
use Rattle.fts_rounds.specs.declared.stamps.RoundLimits.{RoundLimits}
use Rattle.fts_rounds.specs.RoundsDrawn.{drawn}
use Rattle.fts_model.specs.Operations.{stamps_of}
use Rattle.fts_rounds.specs.Rounds.{Held}
use Rattle.fts_rounds.specs.Shuffles.{IsShuffle}
use Rattle.fts_rounds.proofs.RoundsStepsLemmas.{collects, looks}
use Rattle.fts_rounds.proofs.RoundsMergingLemmas.{alone_seat, told}
use Rattle.fts_rounds.proofs.ShufflesLemmas.{alone_shuffled}
use Rattle.fts_rounds.proofs.round.Round.alone.Goals as goal

pub join_seat-requires : goal.join_seat-requires
join_seat-requires c =
    let me = c.ended.invariant.2 in
    let lanes : c.ended.inside.seat.me.0.lanes ≡ 1 = ap (λ m. m.0.lanes) me in
    let round : c.ended.inside.seat.table_id ≡ c.args.self.table = ap (λ (h : Held). h.table) (c.ended.view_is ∙ c.end.view_is) ∙ c.requires.lane.0 in (
      search rules,
      round ∙ (sym (ap (λ r. r.table) c.self.view_is) ∙ (c.self.invariant.0 ∙ sym (ap (λ t. t.shared.table_id) c.deref.ensures))),
      ap (λ m. m.1) me,
      search rules,
      collects _ _ _ _ _ (omega arith),
    )

pub load-requires : goal.load-requires
load-requires c =
    let ops = c.ended.inside.ops.items in
    let limits : RoundLimits = c.self.inside.limits in
    let view = c.ended.view_is ∙ c.end.view_is in
    let list = ap (λ (h : Held). h.ops) view in
    let same_limits : c.ended.inside.limits ≡ limits = ap (λ (h : Held). h.limits) view ∙ (c.requires.lane.1 ∙ sym (ap (λ r. r.limits) c.self.view_is)) in
    let mine = c.ended.invariant.2 ∙ ap (λ t. (drawn t 1 (stamps_of ops), [])) same_limits in
    let seat = alone_seat c.args.end ops limits c.self.inside.seat.me c.join_seat.new.seat.me c.ended.inside.seat.me c.self.invariant.2 list c.ended.invariant.3
    mine c.join_seat.ensures.2 in
    let lanes : c.join_seat.new.seat.me.0.lanes ≡ length (c.args.end ∷ []) = ap (λ m. m.0.lanes) seat in
    (search rules, search rules, looks _ _ _ _ (omega arith))

pub returns-clause-shuffle : goal.returns-clause-shuffle
returns-clause-shuffle c =
    let ops = c.ended.inside.ops.items in
    let limits : RoundLimits = c.self.inside.limits in
    let view = c.ended.view_is ∙ c.end.view_is in
    let list = ap (λ (h : Held). h.ops) view in
    let same_limits : c.ended.inside.limits ≡ limits = ap (λ (h : Held). h.limits) view ∙ (c.requires.lane.1 ∙ sym (ap (λ r. r.limits) c.self.view_is)) in
    let mine = c.ended.invariant.2 ∙ ap (λ t. (drawn t 1 (stamps_of ops), [])) same_limits in
    let seat = alone_seat c.args.end ops limits c.self.inside.seat.me c.join_seat.new.seat.me c.ended.inside.seat.me c.self.invariant.2 list c.ended.invariant.3
    mine c.join_seat.ensures.2 in
    let one : limits.lanes ≡ 1 = ap (λ r. r.limits.lanes) c.self.view_is ∙ c.requires.one in
    let all = told limits (length (c.args.end ∷ [])) (stamps_of ops) c.join_seat.new.seat.me seat (omega arith) c.load.ensures.2.1 in
    subst (λ (t : RoundLimits). IsShuffle t.first ops (c.args.end ∷ [])) (ap (λ r. r.limits) c.self.view_is)
    (alone_shuffled limits.first c.args.end ops list c.ended.invariant.3 all.each_once)

pub invariant_of-result : goal.invariant_of-result
invariant_of-result c =
    let ops = c.ended.inside.ops.items in
    let limits : RoundLimits = c.self.inside.limits in
    let view = c.ended.view_is ∙ c.end.view_is in
    let list = ap (λ (h : Held). h.ops) view in
    let same_limits : c.ended.inside.limits ≡ limits = ap (λ (h : Held). h.limits) view ∙ (c.requires.lane.1 ∙ sym (ap (λ r. r.limits) c.self.view_is)) in
    let mine = c.ended.invariant.2 ∙ ap (λ t. (drawn t 1 (stamps_of ops), [])) same_limits in
    let seat = alone_seat c.args.end ops limits c.self.inside.seat.me c.join_seat.new.seat.me c.ended.inside.seat.me c.self.invariant.2 list c.ended.invariant.3
    mine c.join_seat.ensures.2 in
    let one : limits.lanes ≡ 1 = ap (λ r. r.limits.lanes) c.self.view_is ∙ c.requires.one in
    let all = told limits (length (c.args.end ∷ [])) (stamps_of ops) c.join_seat.new.seat.me seat (omega arith) c.load.ensures.2.1 in
    let small = all.small in
    let count = length-map ops (λ s. s.stamp) in
    ((alone_shuffled limits.first c.args.end ops list c.ended.invariant.3 all.each_once).numbered, omega arith)
