-- One document is marked, and the others stay.
use Rattle.std.proofs.Common.{arith}
use Rattle.fts_postings.proofs.WordsLemmas.{found-set}
use Rattle.fts_postings.proofs.window.Window.mark.Goals as goal

pub returns-clause-marked : goal.returns-clause-marked
returns-clause-marked c =
    let w = c.args.self.now in
    found-set w.base w.from w.last c.args.doc w.words w.order c.requires.low c.requires.high (omega (arith, c.requires.high, w.few))
