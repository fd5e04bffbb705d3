use Rattle.std.proofs.Common.{◌∙◌, ◌+◌, ◌-◌, ap}
use Rattle.fts_parts.specs.Tallies.{counts_from}
use Rattle.fts_parts.proofs.TallyLemmas.{AreCounts-none}
use Rattle.fts_parts.proofs.tally.Tally.new.Goals as goal

pub returns-in_ok-counts-in-Some-clause-none : goal.returns-in_ok-counts-in-Some-clause-none
returns-in_ok-counts-in-Some-clause-none c = λ few.
    ap (counts_from c.in-Some.least) (c.in_ok-counts-in-Some.ensures.items_if_clones_equal (λ y e. e))
    ∙ AreCounts-none c.in-Some.least (c.in-Some.greatest - c.in-Some.least + 1) few
