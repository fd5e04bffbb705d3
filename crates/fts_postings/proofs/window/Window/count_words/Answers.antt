-- Each turn counts a word.
use Rattle.std.proofs.Common.{suc, ◌+◌, ◌-◌, ◌*◌, ◌^◌, ◌<◌, get_or, refl, arith, rules}
use Rattle.fts_postings.specs.Windows.{is_found}
use Rattle.fts_postings.proofs.CostLemmas.{scan_cost}
use Rattle.fts_postings.proofs.TakingLemmas.{whole_word}
use Rattle.fts_postings.proofs.WordsLemmas.{word_at}
use Rattle.fts_postings.proofs.window.Window.count_words.Goals as goal

pub overflow_add-count : goal.overflow_add-count
overflow_add-count c =
    let w = c.args.self.now in
    let index = c.loop-index.index in
    let fits : get_or w.words index 0 < 2 ^ 64 = search rules in
    let long = whole_word w.words w.base index w.last (get_or w.words index 0) (word_at w.base index (w.base + index * 64) w.words refl) fits
    (omega (arith, c.saturating_sub.ensures, c.loop-index-test.true)) in
    omega (arith, scan_cost (is_found w.base w.words) w.from (suc w.last - w.from) 0, c.loop-index.invariant, long, w.fits)

pub loop-index-preserved : goal.loop-index-preserved
loop-index-preserved c =
    let w = c.args.self.now in
    let index = c.loop-index.index in
    let fits : get_or w.words index 0 < 2 ^ 64 = search rules in
    let long = whole_word w.words w.base index w.last (get_or w.words index 0) (word_at w.base index (w.base + index * 64) w.words refl) fits
    (omega (arith, c.saturating_sub.ensures, c.loop-index-test.true)) in
    omega (arith, c.loop-index.invariant, long)
