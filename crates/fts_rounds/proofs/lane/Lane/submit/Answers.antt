-- The step maintains the rule, and the lane's list still rises.
use Rattle.std.proofs.Common.{rules, ◌≡◌, ℕ, [], ◌∷◌, ◌++◌, length, ap, sym, subst, ◌∙◌, arith}
use Rattle.std.proofs.lemmas.List.{length-map}
use Rattle.fts_rounds.specs.RoundsDrawn.{drawn}
use Rattle.fts_model.specs.Operations.{stamps_of}
use Rattle.fts_rounds.specs.Rounds.{AllBelow, Rises}
use Rattle.fts_rounds.proofs.RoundsNumbersLemmas.{Rises-push, All-from_below, stamps_of-pushed}
use Rattle.fts_rounds.proofs.RoundsStepsLemmas.{draws}
use Rattle.fts_rounds.proofs.lane.Lane.submit.Goals as goal

pub fetch_add-stamp-requires : goal.fetch_add-stamp-requires
fetch_add-stamp-requires c =
    let me = c.self.invariant.2 in
    let count : length c.self.inside.seat.me.0.stamps ≡ length c.self.inside.ops.items =
    ap (λ m. length m.0.stamps) me ∙ length-map c.self.inside.ops.items (λ s. s.stamp) in
    let cap : c.self.inside.seat.me.0.limits.cap ≡ c.self.inside.limits.cap = ap (λ m. m.0.limits.cap) me in
    (search rules, search rules, draws _ _ _ _ (ap (λ m. m.0.lanes) me) (omega arith))

pub invariant_of-self-2 : goal.invariant_of-self-2
invariant_of-self-2 c =
    let me = c.self.invariant.2 in
    let found : ℕ = c.fetch_add-stamp.result in
    let (stamps, count) = stamps_of-pushed c.self.inside.ops.items _ _ _ c.reserve.ensures.items c.push_reserved.ensures.items in
    let below : AllBelow found (stamps_of c.self.inside.ops.items) = subst (AllBelow found) (ap (λ m. m.0.stamps) me) c.fetch_add-stamp.ensures.2.2 in (
      search rules,
      search rules,
      c.fetch_add-stamp.ensures.2.0
          ∙ (ap (λ m. (drawn m.0.limits m.0.lanes (m.0.stamps ++ found ∷ []), m.1)) me ∙ ap (λ l. (drawn c.self.inside.limits 1 l, [])) (sym stamps)),
      subst Rises (sym stamps) (Rises-push found (stamps_of c.self.inside.ops.items) below c.self.invariant.3),
      omega arith,
    )

pub returns-clause-from_first : goal.returns-clause-from_first
returns-clause-from_first c =
    let first : c.self.inside.seat.me.0.limits.first ≡ c.args.self.now.limits.first =
    ap (λ m. m.0.limits.first) c.self.invariant.2 ∙ ap (λ h. h.limits.first) c.self.view_is in
    let low = c.fetch_add-stamp.ensures.2.1 in
    omega arith

pub returns-clause-above : goal.returns-clause-above
returns-clause-above c =
    let me = c.self.invariant.2 in
    let list = ap (λ h. h.ops) c.self.view_is in
    let below : AllBelow c.fetch_add-stamp.result (stamps_of c.self.inside.ops.items) =
    subst (AllBelow c.fetch_add-stamp.result) (ap (λ m. m.0.stamps) me) c.fetch_add-stamp.ensures.2.2 in
    All-from_below c.fetch_add-stamp.result c.args.self.now.ops (subst (λ l. AllBelow c.fetch_add-stamp.result (stamps_of l)) list below)

pub returns-clause-alone : goal.returns-clause-alone
returns-clause-alone c one =
    let me = c.self.invariant.2 in
    let all : c.self.inside.seat.me.0.lanes ≡ c.self.inside.seat.me.0.limits.lanes
    = ap (λ m. m.0.lanes) me ∙ (sym one ∙ (sym (ap (λ h. h.limits.lanes) c.self.view_is) ∙ sym (ap (λ m. m.0.limits.lanes) me))) in
    let found = c.fetch_add-stamp.ensures.2.4 all in
    let first : c.self.inside.seat.me.0.limits.first ≡ c.args.self.now.limits.first = ap (λ m. m.0.limits.first) me ∙ ap (λ h. h.limits.first) c.self.view_is in
    let count : length c.self.inside.seat.me.0.stamps ≡ length c.args.self.now.ops
    = ap (λ m. length m.0.stamps) me ∙ (length-map c.self.inside.ops.items (λ s. s.stamp) ∙ ap (λ h. length h.ops) c.self.view_is) in
    omega arith
