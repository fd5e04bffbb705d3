-- The rule of the book that holds a writer's publications, and what its one step adds.
use Rattle.std.specs.Prelude.{◌≡◌, ℕ, ◌+◌, ◌==◌, true, List, [], ◌∷◌, ◌++◌, length, MatchBool}
use Rattle.logbook.specs.Pages.{Cell, Step, View, Book, Named}
use Rattle.fts_index.specs.Publications.{ArePublications}
use Rattle.fts_index.specs.declared.publications.publication.Publication.{Publication}

-- the one word is the number of publications after the opening
pub record IsKept (cells : List Cell) (list : List Publication) : Type 0 where
  pub behind : ℕ
  pub words : cells ≡ (behind, true) ∷ []
  pub count : length list ≡ behind + 1
  pub legal : ArePublications list

-- the word of a book
abbrev pub head_of : Book → Named
head_of b = record { tracked = true; key = 0; book = b }

-- if the word was as expected, all publications were known, and one was added to them
abbrev pub Appends : Step Publication → View Publication ℕ → ℕ → View Publication ℕ → Type 0
Appends s v found w = MatchBool (found == s.old) (w.0 ≡ v.0 ++ s.ask ∷ []) (Unit {0})
