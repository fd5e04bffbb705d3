-- What a call of two lines leaves, and its code.
use Rattle.std.specs.Prelude.{◌≡◌, ◌≢◌, ◌+◌, ◌<◌, ◌≤◌, ◌⊎◌, ◌↔◌, ◌^◌, ◌++◌, ℤ, ℕ, true, List, [], ◌∷◌, length, is_ok}
use Rattle.std.specs.Prelude.{if◌then◌else◌, string_bytes}
use Rattle.fts_base.specs.Results.{result_and_then}
use Rattle.fts_engine.specs.Indexes.{indexes}
use Rattle.fts_script.specs.command.Commands.{command, longest}
use Rattle.fts_script.specs.session.Outputs.{SessionValue, reply_to}
use Rattle.fts_script.specs.session.Replaces.{addition, after_replace, deletion, replace, reply_to_replace}
use Rattle.fts_script.specs.session.Transactions.{after_transaction, reply_to_transaction}
use Rattle.fts_c.specs.declared.codes.TheConstants.{OK, LINE_TOO_LONG, USED_UP}
use Rattle.fts_c.specs.declared.state.State.{State}
use Rattle.fts_c.specs.Codes.{IsOfTried}

-- two lines that are tried
pub record AreTried (s : SessionValue) (delete add : List ℕ) : Type 0 where
  pub fits_delete : length delete ≤ longest
  pub fits_add : length add ≤ longest
  pub lines_left : s.number + 1 < 2 ^ 61

-- two lines have this code
pub record IsCodeOfTwo (s : SessionValue) (delete add : List ℕ) (code : ℤ) : Type 0 where
  pub line_too_long : (code ≡ LINE_TOO_LONG) ↔ ((longest < length delete) ⊎ (longest < length add))
  pub used_up : (code ≡ USED_UP) ↔ ((length delete ≤ longest) × (length add ≤ longest) × (2 ^ 61 ≤ s.number + 1))
  pub tried : IsOfTried code ↔ AreTried s delete add

-- two lines aren't tried, and have this code
pub record IsFaultOfTwo (s : SessionValue) (delete add : List ℕ) (code : ℤ) : Type 0 where
  pub code_is : IsCodeOfTwo s delete add code
  pub untried : AreTried s delete add → ⊥

-- A deletion and an addition were executed as one: the reply is the definition's, and the session goes on as it says.
-- At another code there is no reply, and the session is as it was.
pub record Replaces (old : State) (delete add : List ℕ) (new : State) (code : ℤ) : Type 0 where
  pub code_is : IsCodeOfTwo old.session.script delete add code
  pub reply : code ≡ OK → string_bytes new.reply ≡ reply_to_replace old.session.script delete add
  pub session : code ≡ OK → new.session.script ≡ after_replace old.session.script delete add
  pub same : code ≢ OK → new.session.script ≡ old.session.script
  pub none : code ≢ OK → string_bytes new.reply ≡ []

-- two lines are a deletion and an addition
pub record ArePair (delete add : List ℕ) : Type 0 where
  pub is_deletion : is_ok (result_and_then deletion (command delete)) ≡ true
  pub is_addition : is_ok (result_and_then addition (command add)) ≡ true

-- Two lines that are done as one, or not, are a transaction of the two. If they are done, its reply has that to the
-- deletion before the one to the addition.
pub record IsTransaction (s : SessionValue) (delete add : List ℕ) : Type 0 where
  pub after : after_replace s delete add ≡ after_transaction s (delete ∷ add ∷ [])
  pub reply : reply_to_transaction s (delete ∷ add ∷ []) ≡ (if is_ok (replace indexes s.index delete add)
      then reply_to s delete ++ reply_to_replace s delete add else reply_to_replace s delete add)
