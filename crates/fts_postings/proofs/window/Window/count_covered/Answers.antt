-- If the last has a place, all have; otherwise those before the first that has none.
use Rattle.std.proofs.Common.{length, arith}
use Rattle.fts_postings.proofs.MarkingLemmas.{places_first}
use Rattle.fts_postings.proofs.window.Window.count_covered.Goals as goal
use Rattle.fts_postings.proofs.window.Window.count_covered.Goals.{then-count-eq0-via-then-count-eq0, then-count-eq0-via-else-count-eq0+then-covers}

pub returns-then-count-eq0-clause-places : goal.returns-then-count-eq0-clause-places
returns-then-count-eq0-clause-places c =
    places_first c.args.self.now.last c.args.docs.now (length c.args.docs.now) c.requires (omega arith) (elim c.then-count-eq0.branch [
      | then-count-eq0-via-then-count-eq0 w ↦ λ some. absurd (omega (arith, some, w.if-count-eq0.true))
      | then-count-eq0-via-else-count-eq0+then-covers w ↦ λ _. w.if-covers.ensures
    ])

pub returns-clause-places : goal.returns-clause-places
returns-clause-places c =
    places_first c.args.self.now.last c.args.docs.now c.place_of.result c.requires c.place_of.ensures.high_within
    (λ some. omega (arith, c.place_of.ensures.before some))
