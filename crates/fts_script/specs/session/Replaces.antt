-- Two lines as one: a deletion and the addition after it, both or neither.
use Rattle.std.specs.Prelude.{◌≡◌, ℕ, ◌+◌, List, Result, Ok, Err, Option, is_ok, if◌then◌else◌}
use Rattle.fts_base.specs.declared.refusal.Refusal.{Refusal}
use Rattle.fts_base.specs.declared.refusal.Refusal.TheVariants.{BadCommand}
use Rattle.fts_base.specs.Results.{result_and_then}
use Rattle.fts_script.specs.command.Commands.{Command, Add, Delete, command}
use Rattle.fts_engine.specs.Carriers.{Carrier}
use Rattle.fts_engine.specs.Indexes.{indexes}
use Rattle.fts_script.specs.session.Replies.{Outcome, execute, index_after, text_of}
use Rattle.fts_script.specs.session.Outputs.{SessionValue, after_line, reply_to}

-- a command, if it deletes the documents with a term
abbrev pub deletion : Command → Result Command Refusal
deletion (Delete name value) = Ok (Delete name value)
deletion other = Err BadCommand

-- a command, if it adds a document
abbrev pub addition : Command → Result Command Refusal
addition (Add value) = Ok (Add value)
addition other = Err BadCommand

-- one command after another: both are done, or neither
abbrev pub execute_two : {S : Type 0} → Carrier S → Option S → Command → Command → Result (Outcome S) Refusal
execute_two on index first second = result_and_then (λ done. execute on done.index second) (execute on index first)

-- the outcome of a line that deletes and a line that adds: both are read before either is done
abbrev pub replace : {S : Type 0} → Carrier S → Option S → List ℕ → List ℕ → Result (Outcome S) Refusal
replace on index delete add =
    result_and_then (λ first. result_and_then (λ second. execute_two on index first second)
    (result_and_then addition (command add))) (result_and_then deletion (command delete))

-- how many lines were done of two that are one
abbrev pub lines_done : {S : Type 0} → Result (Outcome S) Refusal → ℕ
lines_done outcome = if is_ok outcome then 2 else 0

-- the script after a line that deletes and a line that adds: both lines were done, or it is as it was
abbrev pub after_replace : SessionValue → List ℕ → List ℕ → SessionValue
after_replace s delete add = record {
  number = s.number + lines_done (replace indexes s.index delete add);
  index = index_after s.index (replace indexes s.index delete add);
}

-- the reply to the two: that to the addition, or the refusal of either, in the line after the last
abbrev pub reply_to_replace : SessionValue → List ℕ → List ℕ → List ℕ
reply_to_replace s delete add = text_of (s.number + 1) (replace indexes s.index delete add)

-- Two lines that are done as one are done one after the other, and the reply is that to the second.
pub record AreDone (s : SessionValue) (delete add : List ℕ) : Type 0 where
  pub after : after_replace s delete add ≡ after_line (after_line s delete) add
  pub reply : reply_to_replace s delete add ≡ reply_to (after_line s delete) add
