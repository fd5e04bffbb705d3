-- No word has a bit.
use Rattle.std.proofs.Common.{◌*◌, ◌/◌}
use Rattle.fts_postings.proofs.WordsLemmas.{found-zeros}
use Rattle.fts_postings.proofs.window.Window.begin.Goals as goal

pub returns-clause-nothing : goal.returns-clause-nothing
returns-clause-nothing c = found-zeros (c.args.doc / 64 * 64) c.args.doc c.max-last.result
