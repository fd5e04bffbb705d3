-- What is in common is some of what remains of the leading cursor.
use Rattle.std.proofs.Common.{arith}
use Rattle.fts_postings.specs.Conjoined.{each_remaining}
use Rattle.fts_postings.specs.Sets.{in_all}
use Rattle.fts_postings.specs.Posting.{remaining_of}
use Rattle.fts_postings.proofs.CostLemmas.{length-filter-le}
use Rattle.fts_postings.proofs.conjunction.Conjunction.cost.Goals as goal

pub returns : goal.returns
returns g c = rw (← c.self.view_is) (omega (arith, length-filter-le (in_all (each_remaining c.self.inside.others.items)) (remaining_of c.self.inside.lead)))
