-- Each word is met with that of the bits.
use Rattle.std.proofs.Common.{arith}
use Rattle.fts_postings.specs.Windows.{is_set}
use Rattle.fts_postings.proofs.WordsLemmas.{found-and}
use Rattle.fts_postings.proofs.window.Window.keep_set.Goals as goal

pub returns-clause-kept : goal.returns-clause-kept
returns-clause-kept c =
    let w = c.args.self.now in
    found-and w.base w.from w.last w.words _ (is_set c.args.bits.now) w.order w.aligned (omega arith) c.and_into.ensures
