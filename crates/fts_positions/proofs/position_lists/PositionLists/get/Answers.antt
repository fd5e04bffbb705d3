-- A list is between its bounds.
use Rattle.std.proofs.Common.{[], ◌+◌, ◌%◌, length, get_or, ap, sym, ◌∙◌, arith}
use Rattle.std.proofs.lemmas.List.{get_or_past}
use Rattle.fts_positions.proofs.PackedLemmas.{LiesBetween, lies_between, length-position_lists_at}
use Rattle.fts_positions.proofs.position_lists.PositionLists.get.Goals as goal
use Rattle.fts_positions.proofs.position_lists.PositionLists.get.Goals.{After-enter}

pub returns-then-number-len-clause-positions : goal.returns-then-number-len-clause-positions
returns-then-number-len-clause-positions c = let s = c.self.inside in
    c.none.ensures ∙ sym (get_or_past c.args.self.now c.args.number _ (omega (arith, length-position_lists_at s.counts s.gaps, ap length c.self.view_is)))

pub enter-requires-clause-within : goal.enter-requires-clause-within
enter-requires-clause-within c = let s = c.self.inside in
    omega (arith, c.if-number-len.false, c.len.ensures, length-position_lists_at s.counts s.gaps, ap length c.self.view_is)

-- the list is between its bounds
between : (c : After-enter) → LiesBetween c.self.inside.counts c.self.inside.gaps c.args.number (get_or c.enter.new.bounds.at (c.args.number % 128) 0)
    (get_or c.enter.new.bounds.at (c.args.number % 128 + 1) 0)
between c = let s = c.self.inside in
    lies_between s.counts s.starts.items s.gaps c.args.self.now c.args.number c.enter.new.bounds.at c.self.invariant c.self.view_is
    (omega (arith, c.if-number-len.false, c.len.ensures, length-position_lists_at s.counts s.gaps, ap length c.self.view_is))
    (rw c.enter.ensures.block at c.enter.ensures.bounds)

pub between-requires-clause-within : goal.between-requires-clause-within
between-requires-clause-within c = (between (goal.at.between-requires-clause-within c).After-enter).within

pub between-requires-clause-fit : goal.between-requires-clause-fit
between-requires-clause-fit c = (between (goal.at.between-requires-clause-fit c).After-enter).fit

pub returns-clause-positions : goal.returns-clause-positions
returns-clause-positions c = c.between.ensures ∙ sym (between (goal.at.returns-clause-positions c).After-enter).is
    ∙ ap (λ rs. get_or rs c.args.number []) c.self.view_is
