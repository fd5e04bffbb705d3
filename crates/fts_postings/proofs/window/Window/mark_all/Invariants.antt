-- The documents so far are marked.
use Rattle.std.proofs.Common.{◌≡◌, ℕ, ◌||◌, take}
use Rattle.fts_postings.specs.Sets.{has}
use Rattle.fts_postings.proofs.WindowLemmas.{found}
use Rattle.fts_postings.proofs.window.Window.mark_all.Given as goal

abbrev pub invariant-loop-doc : goal.invariant-loop-doc
invariant-loop-doc l = record {
  from : l.self.from ≡ l.initial.self.from;
  last : l.self.last ≡ l.initial.self.last;
  marked : (d : ℕ) → has (found l.self) d ≡ (has (found l.initial.self) d || has (take l.doc-index l.docs) d);
}
