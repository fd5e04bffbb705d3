-- The word of the place.
use Rattle.std.proofs.Common.{◌-◌, ◌/◌, arith}
use Rattle.fts_postings.proofs.WordsLemmas.{word_at}
use Rattle.fts_postings.proofs.window.Window.word.Goals as goal

pub returns : goal.returns
returns c =
    let w = c.args.self.now in
    word_at w.base ((c.args.start - w.base) / 64) c.args.start w.words (omega (arith, c.requires.low, c.requires.aligned))
