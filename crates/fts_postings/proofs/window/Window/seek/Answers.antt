-- The target becomes the first place.
use Rattle.std.proofs.Common.{◌≡◌, ap, max, ◌∙◌, arith}
use Rattle.fts_postings.specs.Windows.{found_in}
use Rattle.fts_postings.proofs.WindowLemmas.{found-at_least}
use Rattle.fts_postings.proofs.window.Window.seek.Goals as goal

pub returns-clause-marked : goal.returns-clause-marked
returns-clause-marked c =
    let w = c.args.self.now in
    let later : c.max-self.result ≡ max w.from c.args.target = omega arith in
    ap (λ n. found_in w.base n w.last w.words) later ∙ found-at_least w.base w.from c.args.target w.last w.words
