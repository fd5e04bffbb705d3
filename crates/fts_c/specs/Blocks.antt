-- What a call of several lines leaves, and its code.
use Rattle.std.specs.Prelude.{◌≡◌, ◌≢◌, ◌<◌, ℤ, ℕ, false, List, [], ◌++◌, length, take, slice_index_or, string_bytes}
use Rattle.fts_script.specs.session.Outputs.{after_line, after_lines, replies, reply_to}
use Rattle.fts_script.specs.session.Text.{is_blank, lines_of}
use Rattle.fts_c.specs.declared.codes.TheConstants.{OK, MEMORY}
use Rattle.fts_c.specs.declared.state.State.{State}
use Rattle.fts_c.specs.Codes.{IsCodeOf}

-- A line was executed as on its own, and its reply was appended.
pub record ExecutesNext (old : State) (line : List ℕ) (new : State) (code : ℤ) : Type 0 where
  pub code_is : IsCodeOf old.session.script line code
  pub reply : code ≡ OK → string_bytes new.reply ≡ string_bytes old.reply ++ reply_to old.session.script line
  pub session : code ≡ OK → new.session.script ≡ after_line old.session.script line
  pub same : code ≢ OK → new.session.script ≡ old.session.script
  pub none : code ≢ OK → string_bytes new.reply ≡ string_bytes old.reply
  pub not_blank : code ≡ MEMORY → is_blank line ≡ false

-- the first line that wasn't done has this code, of those at which a line isn't done
pub record StopsAt (at : State) (line : List ℕ) (code : ℤ) : Type 0 where
  pub code_is : IsCodeOf at.session.script line code
  pub not_ok : code ≢ OK
  pub not_blank : code ≡ MEMORY → is_blank line ≡ false

-- The lines of a block were executed up to the first that has another code than 0. The reply is their replies, one
-- after the other, and the session is the one that they leave. The code is 0 if all were done, and otherwise that of
-- the first that wasn't.
pub record ExecutesLines (old : State) (block : List ℕ) (new : State) (code : ℤ) (done : ℕ) : Type 0 where
  pub reply : string_bytes new.reply ≡ replies old.session.script (take done (lines_of block))
  pub session : new.session.script ≡ after_lines old.session.script (take done (lines_of block))
  pub all : code ≡ OK → done ≡ length (lines_of block)
  pub within : code ≢ OK → done < length (lines_of block)
  pub stopped : code ≢ OK → StopsAt new (slice_index_or (lines_of block) done []) code
