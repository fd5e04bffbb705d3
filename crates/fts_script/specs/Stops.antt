-- What is written if a script stops before its end.
use Rattle.std.specs.Prelude.{ℕ, ◌≡◌, ◌≢◌, ◌-◌, false, List, [], ◌∷◌, ◌++◌, length, take}
use Rattle.fts_script.specs.session.Text.{lines_of, is_blank, IsWhole, HasNoEnd}
use Rattle.fts_script.specs.session.Outputs.{SessionValue, start, after_lines, output}

-- xs begins with front
abbrev pub BeginsWith : List ℕ → List ℕ → Type 0
BeginsWith xs front = (rest : List ℕ) × (xs ≡ front ++ rest)

-- a beginning of the output, however the input goes on
abbrev pub BeginsOutput : List ℕ → List ℕ → Type 0
BeginsOutput input out = (more : List ℕ) → BeginsWith (output (input ++ more)) out

-- as `BeginsOutput`, but if the input has ended, it doesn't go on
abbrev pub BeginsOutputUnless : Type 0 → List ℕ → List ℕ → Type 0
BeginsOutputUnless ended input out = (more : List ℕ) → (ended → more ≡ []) → BeginsWith (output (input ++ more)) out

-- the replies to the first lines of the input, at least to each that ended before the last n bytes
pub record AnswersFirst (n : ℕ) (input out : List ℕ) : Type 0 where
  pub done : List ℕ
  pub rest : List ℕ
  pub split : input ≡ done ++ rest
  pub whole : IsWhole done
  pub replied : out ≡ output done
  pub late : HasNoEnd (take (length rest - n) rest)

-- there is a first line, and it isn't blank
abbrev pub IsWritten : List (List ℕ) → Type 0
IsWritten [] = ⊥
IsWritten (line ∷ lines) = is_blank line ≡ false

-- as `AnswersFirst`, and the next line isn't blank, unless there was no input
abbrev pub StopsFirst : ℕ → List ℕ → List ℕ → Type 0
StopsFirst n input out = (first : AnswersFirst n input out) × (input ≢ [] → IsWritten (lines_of first.rest))

-- as `StopsFirst`, and the session is as those lines leave it: all lines that it has answered are replied to
abbrev pub StopsAfter : SessionValue → ℕ → List ℕ → List ℕ → Type 0
StopsAfter s n input out = (stops : StopsFirst n input out) × (s ≡ after_lines start (lines_of stops.0.done))

-- the replies to all lines that have ended
pub record AnswersEnded (input out : List ℕ) : Type 0 where
  pub done : List ℕ
  pub line : List ℕ
  pub split : input ≡ done ++ line
  pub whole : IsWhole done
  pub unended : HasNoEnd line
  pub replied : out ≡ output done
