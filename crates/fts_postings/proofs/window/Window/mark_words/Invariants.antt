-- The words so far are joined.
use Rattle.std.proofs.Common.{◌≡◌, ℕ, ◌+◌, ◌<◌, ◌≤◌, bit_or, get_or, length}
use Rattle.fts_postings.proofs.window.Window.mark_words.Given as goal

abbrev pub invariant-loop-index : goal.invariant-loop-index
invariant-loop-index l = record {
  base : l.self.base ≡ l.initial.self.base;
  from : l.self.from ≡ l.initial.self.from;
  last : l.self.last ≡ l.initial.self.last;
  long : length l.self.words ≡ 64;
  below : (k : ℕ) → k < l.first → get_or l.self.words k 0 ≡ get_or l.initial.self.words k 0;
  joined : (k : ℕ) → k < l.index → get_or l.self.words (l.first + k) 0 ≡ bit_or (get_or l.initial.self.words (l.first + k) 0) (get_or l.words k 0);
  rest : (k : ℕ) → l.first + l.index ≤ k → get_or l.self.words k 0 ≡ get_or l.initial.self.words k 0;
}
