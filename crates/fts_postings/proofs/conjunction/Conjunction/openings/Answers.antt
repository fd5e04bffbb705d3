-- The bound follows from that on each of the others.
use Rattle.std.proofs.Common.{◌≤◌, length, arith}
use Rattle.fts_postings.proofs.ConjoinedLemmas.{openings_bound}
use Rattle.fts_postings.proofs.conjunction.Conjunction.openings.Goals as goal

pub returns-clause-bound : goal.returns-clause-bound
returns-clause-bound g c =
    let within : c.self.inside.lead.opened ≤ length c.self.inside.lead.blocks = omega (arith, c.openings-sum.ensures.opened, c.openings-sum.ensures.bound) in
    rw (← c.self.view_is) (openings_bound c.self.inside.lead c.self.inside.others.items c.openings-sum.ensures.rises c.self.invariant.together
    c.self.invariant.few within)
