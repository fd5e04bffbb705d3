-- Those counted so far and those from the next word on are all.
use Rattle.std.proofs.Common.{◌≡◌, ◌+◌, ◌*◌, length}
use Rattle.fts_postings.specs.Windows.{found_in}
use Rattle.fts_postings.proofs.WindowLemmas.{found}
use Rattle.fts_postings.proofs.window.Window.count_words.Given as goal

abbrev pub invariant-loop-index : goal.invariant-loop-index
invariant-loop-index l = l.count + length (found_in l.self.base (l.self.base + l.index * 64) l.self.last l.self.words) ≡ length (found l.self)
