-- Each turn counts a word, and the whole ones after it.
use Rattle.std.proofs.Common.{suc, ◌-◌, length, ap, arith}
use Rattle.fts_postings.specs.Windows.{is_found}
use Rattle.fts_postings.proofs.CostLemmas.{scan_cost}
use Rattle.fts_postings.proofs.WindowLemmas.{found-past}
use Rattle.fts_postings.proofs.window.Window.count.Goals as goal

pub overflow_add-count : goal.overflow_add-count
overflow_add-count c =
    let w = c.args.self.now in
    omega (
      arith,
      scan_cost (is_found w.base w.words) w.from (suc w.last - w.from) 0,
      c.loop-self.invariant.sum,
      c.count_word-count.ensures.count,
      w.fits,
    )

pub overflow_add-count-in-loop-self : goal.overflow_add-count-in-loop-self
overflow_add-count-in-loop-self c =
    let w = c.args.self.now in
    omega (
      arith,
      scan_cost (is_found w.base w.words) w.from (suc w.last - w.from) 0,
      c.loop-self.invariant.sum,
      c.count_word-count.ensures.count,
      c.count_words-count.ensures.count,
      w.fits,
    )

pub returns-clause-count : goal.returns-clause-count
returns-clause-count c =
    let w = c.loop-self.self in
    omega (arith, c.loop-self.invariant.sum, ap length (found-past w.base w.from w.last w.words (omega (arith, c.loop-self-test.false))))

pub returns-clause-none : goal.returns-clause-none
returns-clause-none c =
    let w = c.loop-self.self in
    found-past w.base w.from w.last w.words (omega (arith, c.loop-self-test.false))
