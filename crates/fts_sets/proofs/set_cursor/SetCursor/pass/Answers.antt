-- What is left from the target on.
use Rattle.std.proofs.Common.{sym, ap, ◌∙◌, arith}
use Rattle.fts_postings.specs.Remaining.{at_least}
use Rattle.fts_sets.proofs.CursorLemmas.{IsSetCursor-found}
use Rattle.fts_sets.proofs.SetLemmas.{at_least-at_least_of, at_least-lower}
use Rattle.fts_sets.proofs.set_cursor.SetCursor.pass.Goals as goal

pub find_at-self-inside-requires : goal.find_at-self-inside-requires
find_at-self-inside-requires c d high low = c.self.invariant.holds d (omega (arith, high, c.if-self-target.true)) low

pub invariant_of-self : goal.invariant_of-self
invariant_of-self c = IsSetCursor-found c.self.inside.set c.args.target c.find_at-self-inside.result _ c.find_at-self-inside.new.window c.find_at-self-inside.ensures tt

pub returns-then-self-target : goal.returns-then-self-target
returns-then-self-target c =
    c.find_at-self-inside.ensures.same ∙ sym (at_least-at_least_of c.self.inside.set c.self.inside.at c.args.target (omega (arith, c.if-self-target.true)))
    ∙ ap (at_least c.args.target) c.self.view_is

pub returns-else-self-target : goal.returns-else-self-target
returns-else-self-target c =
    let s = c.self.inside in
    sym (ap (at_least c.args.target) (sym c.self.view_is) ∙ at_least-lower s.set s.at c.args.target c.if-self-target.false ∙ c.self.view_is)
