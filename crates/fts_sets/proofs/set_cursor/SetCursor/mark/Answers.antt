-- The documents from where the cursor is are marked.
use Rattle.std.proofs.Common.{◌≡◌, ◌+◌, ◌&&◌, ◌||◌, nat_le, true, sym, ap, ◌∙◌, arith}
use Rattle.fts_postings.specs.Remaining.{at_least}
use Rattle.fts_postings.specs.Sets.{has}
use Rattle.fts_sets.specs.Rows.{found}
use Rattle.fts_sets.proofs.CursorLemmas.{marked_none, remaining_has}
use Rattle.fts_sets.proofs.SetLemmas.{has-low, nothing_left}
use Rattle.fts_postings.proofs.SetLemmas.{has-at_least}
use Rattle.fts_sets.proofs.set_cursor.SetCursor.mark.Goals as goal

pub mark-requires : goal.mark-requires
mark-requires c =
    let s = c.self.inside in
    let here : has (at_least s.at s.set) s.at ≡ true = has-at_least s.at s.set s.at (omega arith) ∙ c.self.invariant.stands c.if-self-lt-END.true in
    has-low c.args.window.now.from c.args.self.now s.at (ap (λ xs. has xs s.at) (sym c.requires ∙ sym c.self.view_is) ∙ here)

pub returns-then-self-lt-END-clause-marked : goal.returns-then-self-lt-END-clause-marked
returns-then-self-lt-END-clause-marked c d =
    let s = c.self.inside in
    let w = c.args.window.now in
    c.mark.ensures.marked d
    ∙ ap (λ b. has (found w) d || (nat_le d w.last && b)) (sym (ap (λ xs. has xs d) (sym c.self.view_is) ∙ remaining_has s.set s.at d))

pub returns-then-self-lt-END-clause-passed : goal.returns-then-self-lt-END-clause-passed
returns-then-self-lt-END-clause-passed c =
    c.pass.ensures ∙ ap (λ n. at_least (n + 1) c.args.self.now) c.mark.ensures.place.1

pub returns-else-self-lt-END-clause-marked : goal.returns-else-self-lt-END-clause-marked
returns-else-self-lt-END-clause-marked c =
    let s = c.self.inside in
    marked_none c.args.self.now c.args.window.now (sym c.self.view_is
    ∙ nothing_left s.set s.at c.self.invariant.rises (λ d far. c.self.invariant.few d (omega (arith, far, c.if-self-lt-END.false))))

pub returns-else-self-lt-END-clause-passed : goal.returns-else-self-lt-END-clause-passed
returns-else-self-lt-END-clause-passed c =
    let s = c.self.inside in
    let none = sym c.self.view_is
    ∙ nothing_left s.set s.at c.self.invariant.rises (λ d far. c.self.invariant.few d (omega (arith, far, c.if-self-lt-END.false))) in
    none ∙ sym (ap (at_least (c.args.window.now.last + 1)) none)
