-- Lines that are done together, all or none: operations, one after the other.
use Rattle.std.specs.Prelude.{ℕ, ◌+◌, Bool, true, false, List, [], ◌∷◌, Result, Ok, Err, Option, Some, None, length}
use Rattle.std.specs.Prelude.{is_ok, if◌then◌else◌, option_map}
use Rattle.fts_base.specs.declared.refusal.Refusal.{Refusal}
use Rattle.fts_base.specs.declared.refusal.Refusal.TheVariants.{BadCommand}
use Rattle.fts_base.specs.Results.{result_and_then}
use Rattle.fts_script.specs.command.Commands.{Command, Schema, Add, Delete, DeleteAll, Commit, Rollback, Merge, Find}
use Rattle.fts_script.specs.command.Commands.{command}
use Rattle.fts_engine.specs.Carriers.{Carrier}
use Rattle.fts_engine.specs.Indexes.{Index, indexes}
use Rattle.fts_engine.specs.TakeBack.{keep_first}
use Rattle.fts_script.specs.declared.session.savepoint.Savepoint.{Savepoint}
use Rattle.fts_script.specs.session.Replies.{Outcome, execute, line_of, refusal_reply}
use Rattle.fts_script.specs.session.Outputs.{SessionValue, after_line, after_lines, replies}

-- whether a command is an operation, which a commit makes visible
abbrev pub is_operation : Command → Bool
is_operation (Add value) = true
is_operation (Delete name value) = true
is_operation DeleteAll = true
is_operation (Schema fields) = false
is_operation Commit = false
is_operation Rollback = false
is_operation Merge = false
is_operation (Find asked) = false

-- the outcome of a line in a transaction: that of the line alone, but any command other than an operation is refused
abbrev pub operate : {S : Type 0} → Carrier S → Option S → List ℕ → Result (Outcome S) Refusal
operate on index line =
    result_and_then (λ c. if is_operation c then execute on index c else Err BadCommand) (command line)

-- whether a transaction takes a line
abbrev pub is_taken : SessionValue → List ℕ → Bool
is_taken s line = is_ok (operate indexes s.index line)

-- how many of the lines are taken, one after the other, before the first that is refused
abbrev pub lines_taken : SessionValue → List (List ℕ) → ℕ
lines_taken s [] = 0
lines_taken s (line ∷ lines) = if is_taken s line then 1 + lines_taken (after_line s line) lines else 0

-- a line's refusal, or else that of a later one
abbrev pub refusal_or : {X : Type 0} → Result X Refusal → Option Refusal → Option Refusal
refusal_or (Ok x) later = later
refusal_or (Err refusal) later = Some refusal

-- the refusal of the first line that is refused; nothing if all are taken
abbrev pub first_refusal : SessionValue → List (List ℕ) → Option Refusal
first_refusal s [] = None
first_refusal s (line ∷ lines) =
    refusal_or (operate indexes s.index line) (first_refusal (after_line s line) lines)

-- the script after a transaction: all of its lines were done, one after the other, or it is as it was
abbrev pub unless_refused : SessionValue → List (List ℕ) → Option Refusal → SessionValue
unless_refused s lines None = after_lines s lines
unless_refused s lines (Some refusal) = s

abbrev pub after_transaction : SessionValue → List (List ℕ) → SessionValue
after_transaction s lines = unless_refused s lines (first_refusal s lines)

-- the reply to a transaction: those to its lines, one after the other, or the first refusal, in the line after the last
-- that was done
abbrev pub replies_unless_refused : SessionValue → List (List ℕ) → Option Refusal → List ℕ
replies_unless_refused s lines None = replies s lines
replies_unless_refused s lines (Some refusal) = line_of (refusal_reply refusal (s.number + 1))

abbrev pub reply_to_transaction : SessionValue → List (List ℕ) → List ℕ
reply_to_transaction s lines = replies_unless_refused s lines (first_refusal s lines)

-- how many operations are uncommitted, if there is an index
abbrev pub count_uncommitted : Option Index → ℕ
count_uncommitted None = 0
count_uncommitted (Some i) = length i.uncommitted

-- what a script goes back to: how many lines there were, and how many uncommitted operations
abbrev pub savepoint_of : SessionValue → Savepoint
savepoint_of s = record { number = s.number; uncommitted = count_uncommitted s.index }

-- a script that goes back to a savepoint: it had as many lines, and of its uncommitted operations it keeps as many, the
-- first ones
abbrev pub rolled_back_to : Savepoint → SessionValue → SessionValue
rolled_back_to at s = record { number = at.number; index = option_map (keep_first at.uncommitted) s.index }
