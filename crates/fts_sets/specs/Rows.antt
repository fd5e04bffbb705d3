-- Words of 64 documents, and a window that has documents of a set.
use Rattle.std.specs.Prelude.{◌≡◌, ℕ, ◌+◌, ◌*◌, ◌<◌, ◌≤◌, ◌==◌, ◌&&◌, ◌||◌, ◌^◌, Bool, IfSome, List, Option, false, length, nat_le, slice_index, true}
use Rattle.std.specs.Int.{bit_at}
use Rattle.fts_pack.specs.Documents.{Rises}
use Rattle.fts_postings.specs.Remaining.{at_least}
use Rattle.fts_postings.specs.Sets.{has}
use Rattle.fts_postings.specs.Windows.{found_in}
use Rattle.fts_postings.specs.declared.window.Window.{Window}

-- the bits of a word tell of 64 documents from one on whether they pass
abbrev pub Tells : (ℕ → Bool) → ℕ → ℕ → Type 0
Tells test from word = (j : ℕ) → j < 64 → (bit_at word j == 1) ≡ test (from + j)

-- each of this many words, the first of them that of an index, tells those documents too that pass
abbrev pub AreAdded : (ℕ → Bool) → ℕ → ℕ → List ℕ → List ℕ → Type 0
AreAdded test index words old new = (k j : ℕ) → k < words → j < 64 →
    (bit_at (slice_index new k) j == 1) ≡ ((bit_at (slice_index old k) j == 1) || test (64 * (index + k) + j))

-- the documents of a window
abbrev pub found : Window → List ℕ
found window = found_in window.base window.from window.last window.words

-- the window has those too that pass, up to its last
abbrev pub AreMarked : (ℕ → Bool) → Window → Window → Type 0
AreMarked test old new = (d : ℕ) → has (found new) d ≡ (has (found old) d || (nat_le d old.last && test d))

-- the window has the documents of a set from one on, up to its last
abbrev pub Holds : List ℕ → ℕ → Window → Type 0
Holds set from window = (d : ℕ) → from ≤ d → d ≤ window.last → has (found window) d ≡ has set d

-- the first document of a set from a number on, or the end, is found, and the window has those from there on
pub record IsFound (set : List ℕ) (from at : ℕ) (window : Window) : Type 0 where
  pub rises : Rises 0 set
  pub few : (d : ℕ) → 2 ^ 32 ≤ d → has set d ≡ false
  pub same : at_least at set ≡ at_least from set
  pub end : at ≤ 2 ^ 32
  pub stands : at < 2 ^ 32 → has set at ≡ true
  pub holds : Holds set at window

-- a cursor over a set: it is at a document, or at the end, and how many remain may be known
pub record IsSetCursor (set : List ℕ) (total : Option ℕ) (at : ℕ) (window : Window) : Type 0 where
  pub found_is : IsFound set at at window
  pub open found_is use *
  pub total_is : IfSome total (λ n. n ≡ length (at_least at set))
