-- What a session answers, compared with what a script does.
use Rattle.std.specs.Prelude.{◌≡◌, ℕ, ◌+◌, ◌^◌, ◌≤◌, ◌⊎◌, ◌++◌, List, length, Option, Some, None, MatchOption}
use Rattle.std.specs.Prelude.{Result, Ok, Err, OnOk, OnErr, codes, option_map}
use Rattle.serde_json.specs.Data.{Data}
use Rattle.fts_base.specs.declared.refusal.Refusal.{Refusal}
use Rattle.fts_base.specs.declared.refusal.Refusal.TheVariants.{Memory}
use Rattle.fts_script.specs.command.Commands.{longest}
use Rattle.fts_engine.specs.Indexes.{Index}
use Rattle.fts_script.specs.command.AnswerData.{answer_data}
use Rattle.fts_script.specs.command.Cuts.{cut_answer}
use Rattle.fts_script.specs.session.Replies.{Outcome, number_reply}
use Rattle.fts_script.specs.session.Outputs.{SessionValue}
use Rattle.fts_script.specs.declared.session.reply.Reply.{Reply}
use Rattle.fts_script.specs.declared.session.reply.Reply.TheVariants.{Number, Answer}
use Rattle.fts_script.specs.declared.session.reply.NumberName.{NumberName}
use Rattle.fts_script.specs.declared.session.reply.NumberName.TheVariants.{Fields, Stamp, Commit, Rollback, Merged}

-- the text of the name of a reply's number
abbrev pub name_text : NumberName → List ℕ
name_text Fields = codes "fields"
name_text Stamp = codes "stamp"
name_text Commit = codes "commit"
name_text Rollback = codes "rollback"
name_text Merged = codes "merged"

-- a reply as JSON
abbrev pub reply_data : Reply → Data
reply_data (Number name n) = number_reply (name_text name) n
reply_data (Answer answer names) = answer_data (cut_answer (option_map (λ listed. listed.items) names) answer)

-- an answer leaves the index as it was
abbrev pub KeepsAtAnswer : Reply → Option Index → Option Index → Type 0
KeepsAtAnswer (Number name n) old new = Unit {0}
KeepsAtAnswer (Answer answer names) old new = new ≡ old

-- The reply and the index after a command are the outcome that was wanted. At a refusal the index is as it
-- was, and the refusal is the one wanted, or memory ran out.
abbrev pub Does : Result (Outcome Index) Refusal → Option Index → Option Index → Result Reply Refusal → Type 0
Does wanted old new (Ok reply) =
    (wanted ≡ Ok (record { index = new; reply = reply_data reply })) × KeepsAtAnswer reply old new
Does wanted old new (Err refusal) = (new ≡ old) × ((refusal ≡ Memory) ⊎ (wanted ≡ Err refusal))

-- a session: its script, and the engine that has the script's index, if there is one
pub record SessionState (E : Type 0) : Type 0 where
  pub script : SessionValue
  pub engine : Option E

-- what maintenance work did to an engine and returned, if there is an engine
abbrev pub Maintains : {E Done : Type 0} → (E → E → Done → Type 0) → Option E → Option E → Option Done → Type 0
Maintains did None new result = (new ≡ None) × (result ≡ None)
Maintains did (Some old) new result = MatchOption new ⊥ (λ engine. MatchOption result ⊥ (did old engine))

-- a bound on what an engine counts, if there is one
abbrev pub ChangesAtMost : {E : Type 0} → (E → ℕ) → ℕ → Option E → Type 0
ChangesAtMost changes n index = MatchOption index (Unit {0}) (λ engine. changes engine ≤ n)

-- each bound before, plus one, is a bound after
abbrev pub ChangesOnce : {E : Type 0} → (E → ℕ) → Option E → Option E → Type 0
ChangesOnce changes old new = (n : ℕ) → ChangesAtMost changes n old → ChangesAtMost changes (n + 1) new

-- a line that can be answered: at most 2^61 lines came before it, and it isn't longer than a line may be
pub record IsAnswerable (s : SessionValue) (line : List ℕ) : Type 0 where
  pub line_number_fits : s.number ≤ 2 ^ 61
  pub fits_line : length line ≤ longest

-- A call appended these bytes, or none if it failed.
pub record Appends {X E : Type 0} (result : Result X E) (old new bytes : List ℕ) : Type 0 where
  pub ok : OnOk result (new ≡ old ++ bytes)
  pub err : OnErr result (new ≡ old)
