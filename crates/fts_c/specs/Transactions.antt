-- What a call of several lines leaves that are done all or none, and its code.
use Rattle.std.specs.Prelude.{◌≡◌, ◌≢◌, ◌<◌, ◌≤◌, ◌++◌, ℤ, ℕ, Bool, true, false, Result, Ok, Err, List, [], length}
use Rattle.std.specs.Prelude.{slice_index_or, string_bytes, take}
use Rattle.fts_engine.specs.Indexes.{indexes}
use Rattle.fts_script.specs.session.Outputs.{after_line, after_lines, reply_to}
use Rattle.fts_script.specs.session.Replies.{text_of}
use Rattle.fts_script.specs.session.Text.{lines_of}
use Rattle.fts_script.specs.session.Transactions.{after_transaction, is_taken, lines_taken, operate}
use Rattle.fts_script.specs.session.Transactions.{reply_to_transaction}
use Rattle.fts_c.specs.declared.codes.TheConstants.{OK}
use Rattle.fts_c.specs.declared.state.State.{State}
use Rattle.fts_c.specs.Codes.{IsCodeOf}

-- A line of a transaction was taken as on its own, and its reply was appended.
pub record IsTaken (old : State) (line : List ℕ) (new : State) : Type 0 where
  pub taken : is_taken old.session.script line ≡ true
  pub reply : string_bytes new.reply ≡ string_bytes old.reply ++ reply_to old.session.script line
  pub session : new.session.script ≡ after_line old.session.script line

-- A line of a transaction was refused, which is the only reply then, in the line of this number.
pub record IsRefused (old : State) (number : ℕ) (line : List ℕ) (new : State) : Type 0 where
  pub refused : is_taken old.session.script line ≡ false
  pub reply : string_bytes new.reply ≡ text_of number (operate indexes old.session.script.index line)
  pub session : new.session.script ≡ old.session.script

-- A line of a transaction has a code, and nothing was done.
pub record IsStopped (old : State) (line : List ℕ) (new : State) (code : ℤ) : Type 0 where
  pub code_is : IsCodeOf old.session.script line code
  pub not_ok : code ≢ OK
  pub session : new.session.script ≡ old.session.script

-- What became of a line of a transaction: it was taken, refused, or has a code other than 0.
abbrev pub Operates : State → ℕ → List ℕ → State → Result Bool ℤ → Type 0
Operates old number line new (Ok true) = IsTaken old line new
Operates old number line new (Ok false) = IsRefused old number line new
Operates old number line new (Err code) = IsStopped old line new code

-- The lines of a block were done one after the other, or none was: then one was refused, which is the reply, or has
-- another code than 0, and there is no reply. `done` is how many lines are before that one, and otherwise how many
-- there are.
pub record Transacts (old : State) (block : List ℕ) (new : State) (code : ℤ) (done : ℕ) : Type 0 where
  pub reply : code ≡ OK → string_bytes new.reply ≡ reply_to_transaction old.session.script (lines_of block)
  pub session : code ≡ OK → new.session.script ≡ after_transaction old.session.script (lines_of block)
  pub counted : code ≡ OK → done ≡ lines_taken old.session.script (lines_of block)
  pub same : code ≢ OK → new.session.script ≡ old.session.script
  pub none : code ≢ OK → string_bytes new.reply ≡ []
  pub before : code ≢ OK → done ≤ lines_taken old.session.script (lines_of block)
  pub within : code ≢ OK → done < length (lines_of block)
  pub stopped : code ≢ OK → IsCodeOf (after_lines old.session.script (take done (lines_of block)))
      (slice_index_or (lines_of block) done []) code
