-- What a call leaves of an open session, and the code that it returns.
use Rattle.std.specs.Prelude.{◌≡◌, ◌≢◌, ℕ, ℤ, false, nat_le, if◌then◌else◌, Option, MatchOption}
use Rattle.std.specs.Prelude.{List, [], ◌++◌, length, drop, string_bytes}
use Rattle.fts_script.specs.session.GroupSearches.{reply_to_group_search}
use Rattle.fts_script.specs.session.Outputs.{SessionValue, after_line, reply_to}
use Rattle.fts_script.specs.session.Searches.{reply_to_search}
use Rattle.fts_script.specs.session.Text.{is_blank}
use Rattle.fts_c.specs.declared.codes.TheConstants.{OK, MEMORY}
use Rattle.fts_c.specs.declared.state.State.{State}
use Rattle.fts_c.specs.Codes.{IsCodeOf, IsOfTried}

-- A session without a reply was put into a place, which holds it now. If memory was refused, the place is as it was.
pub record Opens {P : Type 0} (session : SessionValue) (held : Option State) (old new : P) (code : ℤ) : Type 0 where
  pub code_is : IsOfTried code
  pub ok : code ≡ OK → MatchOption held ⊥ (λ s. (s.session.script ≡ session) × (string_bytes s.reply ≡ []))
  pub same : code ≡ MEMORY → new ≡ old

-- A line was executed: the reply is the definition's, and the session goes on as it says. At another code there is no
-- reply, and the session is as it was. A blank line needs no memory.
pub record Executes (old : State) (line : List ℕ) (new : State) (code : ℤ) : Type 0 where
  pub code_is : IsCodeOf old.session.script line code
  pub reply : code ≡ OK → string_bytes new.reply ≡ reply_to old.session.script line
  pub session : code ≡ OK → new.session.script ≡ after_line old.session.script line
  pub same : code ≢ OK → new.session.script ≡ old.session.script
  pub none : code ≢ OK → string_bytes new.reply ≡ []
  pub not_blank : code ≡ MEMORY → is_blank line ≡ false

-- a reply, and none for a blank line
abbrev pub unless_blank : List ℕ → List ℕ → List ℕ
unless_blank line reply = if is_blank line then [] else reply

-- A search was answered with this reply, and at another code with none. The session is as it was. A blank line has an
-- empty reply, whatever else was asked for, and needs no memory.
pub record Finds (old : State) (line wanted : List ℕ) (new : State) (code : ℤ) : Type 0 where
  pub code_is : IsCodeOf old.session.script line code
  pub reply : code ≡ OK → string_bytes new.reply ≡ unless_blank line wanted
  pub same : new.session.script ≡ old.session.script
  pub none : code ≢ OK → string_bytes new.reply ≡ []
  pub not_blank : code ≡ MEMORY → is_blank line ≡ false

-- A search was answered as the definition says, cut to the fields that another line lists, if there is one.
abbrev pub Searches : State → List ℕ → Option (List ℕ) → State → ℤ → Type 0
Searches old line names new code = Finds old line (reply_to_search old.session.script line names) new code

-- A search was answered as the definition says, with its most frequent groups alone.
abbrev pub SearchesGroups : State → List ℕ → ℕ → State → ℤ → Type 0
SearchesGroups old line limit new code = Finds old line (reply_to_group_search old.session.script line limit) new code

-- a buffer after a copy: the bytes are at its beginning if they fit, otherwise it is as it was
abbrev pub copied : List ℕ → List ℕ → List ℕ
copied bytes out = if nat_le (length bytes) (length out) then bytes ++ drop (length bytes) out else out

-- The size of the last reply was returned, and its bytes were copied if they fit. Nothing changed.
pub record TellsReply (old new : State) (out after : List ℕ) (told : ℕ) : Type 0 where
  pub same : new ≡ old
  pub size : told ≡ length (string_bytes old.reply)
  pub bytes : after ≡ copied (string_bytes old.reply) out
