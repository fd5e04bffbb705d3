-- How far a script has come: the lines that were answered, and the current line.
use Rattle.std.specs.Prelude.{ℕ, ◌≡◌, List, ◌++◌, length}
use Rattle.fts_script.specs.session.Text.{lines_of, IsWhole, HasNoEnd}
use Rattle.fts_script.specs.session.Outputs.{SessionValue, start, after_lines, output}
use Rattle.fts_script.specs.Stops.{AnswersFirst, StopsAfter}
use Rattle.fts_script.specs.session.KeptLines.{KeptLine, kept_line}

-- After this input the lines that have ended were answered by `out`, and the rest of it is the current line.
pub record Answered (s : SessionValue) (p : KeptLine) (input out : List ℕ) : Type 0 where
  pub done : List ℕ
  pub line : List ℕ
  pub split : input ≡ done ++ line
  pub whole : IsWhole done
  pub unended : HasNoEnd line
  pub script : s ≡ after_lines start (lines_of done)
  pub held : p ≡ kept_line line
  pub replied : out ≡ output done

-- These bytes lead from one state to another, while the replies that wait grow from `a` to `b`.
pub record Advances (s t : SessionValue) (p q : KeptLine) (bytes a b : List ℕ) : Type 0 where
  pub leads : (input out : List ℕ) → Answered s p input (out ++ a) → Answered t q (input ++ bytes) (out ++ b)

-- The lines that had ended before these bytes are answered, and some first lines that end in them.
pub record AdvancesFirst (s : SessionValue) (p : KeptLine) (bytes a b : List ℕ) : Type 0 where
  pub leads : (input out : List ℕ) → Answered s p input (out ++ a) →
      AnswersFirst (length bytes) (input ++ bytes) (out ++ b)

-- As `AdvancesFirst`, and memory ran out at a line that isn't blank; the session answered the lines before it.
pub record AdvancesToStop (s t : SessionValue) (p : KeptLine) (bytes a b : List ℕ) : Type 0 where
  pub leads : (input out : List ℕ) → Answered s p input (out ++ a) →
      StopsAfter t (length bytes) (input ++ bytes) (out ++ b)

-- With these replies all of the input is answered, if it ends here.
pub record Finishes (s : SessionValue) (p : KeptLine) (replies : List ℕ) : Type 0 where
  pub ends : (input out : List ℕ) → Answered s p input out → out ++ replies ≡ output input

-- As `Answered` for a writer that took the replies: no reply waits.
pub record RunState (before now : List ℕ) (s : SessionValue) (p : KeptLine) (input : List ℕ) : Type 0 where
  pub out : List ℕ
  pub taken : now ≡ before ++ out
  pub answered : Answered s p input out
