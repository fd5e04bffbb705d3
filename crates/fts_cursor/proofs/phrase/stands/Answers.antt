-- The positions of the first member lie where its posting does.
use Rattle.std.proofs.Common.{◌≡◌, ℕ, ◌||◌, Bool, ap, sym, ◌∙◌}
use Rattle.std.specs.List.{list_all, list_any}
use Rattle.fts_positions.specs.PositionsLeft.{positions_left}
use Rattle.fts_cursor.specs.Phrases.{is_behind}
use Rattle.fts_cursor.proofs.PhraseLemmas.{first_positions, lead_few}
use Rattle.fts_cursor.proofs.phrase.stands.Goals as goal

pub lead_posting-requires-clause-few : goal.lead_posting-requires-clause-few
lead_posting-requires-clause-few c = lead_few c.args.terms.now c.args.first.now c.args.others.now c.requires.members

pub all_follow-requires-clause-members : goal.all_follow-requires-clause-members
all_follow-requires-clause-members c = (c.args.first.now, rw c.loop-position.invariant.others c.requires.members)

pub loop-position-preserved : goal.loop-position-preserved
loop-position-preserved c = record {
  left = λ doc here.
      let f : ℕ → Bool = λ p. list_all (is_behind c.args.first.now.offset p doc) c.args.others.now in
      let follows : c.all_follow.result ≡ f c.in-Some.position =
      c.all_follow.ensures.follow doc here ∙ ap (list_all (is_behind c.args.first.now.offset c.in-Some.position doc)) c.loop-position.invariant.others in
      sym (ap (list_any f) c.in-Some.ensures.steps ∙ ap (λ b. b || list_any f (positions_left c.next.new.self)) (sym follows ∙ c.if-all_follow.false))
      ∙ c.loop-position.invariant.left doc here;
  others = c.all_follow.ensures.same ∙ c.loop-position.invariant.others;
}

pub returns-then-all_follow-clause-stands : goal.returns-then-all_follow-clause-stands
returns-then-all_follow-clause-stands c = λ doc here.
    let f : ℕ → Bool = λ p. list_all (is_behind c.args.first.now.offset p doc) c.args.others.now in
    let at = c.get-positions.ensures.positions ∙ first_positions c.args.terms.now c.args.first.now c.args.others.now c.lead_posting.result doc
    c.requires.members c.lead_posting.ensures here in
    let follows : c.all_follow.result ≡ f c.in-Some.position =
    c.all_follow.ensures.follow doc here ∙ ap (list_all (is_behind c.args.first.now.offset c.in-Some.position doc)) c.loop-position.invariant.others in
    sym (sym (ap (list_any f) at) ∙ sym (c.loop-position.invariant.left doc here) ∙ ap (list_any f) c.in-Some.ensures.steps
    ∙ ap (λ b. b || list_any f (positions_left c.next.new.self)) (sym follows ∙ c.if-all_follow.true))

pub returns-clause-stands : goal.returns-clause-stands
returns-clause-stands c = λ doc here.
    let f : ℕ → Bool = λ p. list_all (is_behind c.args.first.now.offset p doc) c.args.others.now in
    let at = c.get-positions.ensures.positions ∙ first_positions c.args.terms.now c.args.first.now c.args.others.now c.lead_posting.result doc
    c.requires.members c.lead_posting.ensures here in
    sym (sym (ap (list_any f) at) ∙ sym (c.loop-position.invariant.left doc here) ∙ ap (list_any f) c.in_default.ensures.steps.0)
