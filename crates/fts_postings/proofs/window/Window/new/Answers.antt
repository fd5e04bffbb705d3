-- No word has a bit.
use Rattle.fts_postings.proofs.WordsLemmas.{found-zeros}
use Rattle.fts_postings.proofs.window.Window.new.Goals as goal

pub returns : goal.returns
returns c = found-zeros 0 0 0
