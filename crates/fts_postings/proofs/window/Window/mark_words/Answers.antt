-- Words are joined as far as both reach.
use Rattle.std.proofs.Common.{◌-◌, ◌/◌, ap, ◌∙◌, arith}
use Rattle.fts_postings.specs.Windows.{is_found}
use Rattle.fts_postings.proofs.WordsLemmas.{found-joined}
use Rattle.fts_postings.proofs.window.Window.mark_words.Goals as goal

pub returns-clause-marked : goal.returns-clause-marked
returns-clause-marked c d up low =
    let w = c.args.self.now in
    let n = c.loop-index.self in
    let same = c.loop-index.invariant in
    let first = (c.args.start - w.base) / 64 in
    let count = c.min-count.result in
    ap (λ b. is_found b n.words d) same.base
    ∙ found-joined w.base c.args.start first count d w.words n.words c.args.words.now (omega (arith, c.requires.low, c.requires.aligned, w.aligned))
    same.below (λ k inside. same.joined k (omega (arith, inside))) (λ k past. same.rest k (omega (arith, past)))
    (λ past. omega (arith, past, low, up, w.few, c.min-count.ensures, c.saturating_sub.ensures)) up
