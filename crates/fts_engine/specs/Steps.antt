-- The steps of a script on an index: each gives what the index becomes and what is answered, or a refusal.
use Rattle.std.specs.Prelude.{◌≡◌, ℕ, ◌+◌, ◌⊎◌, nat_lt, length, Result, Ok, Err, if◌then◌else◌}
use Rattle.fts_base.specs.declared.refusal.Refusal.{Refusal}
use Rattle.fts_base.specs.declared.refusal.Refusal.TheVariants.{Memory, TooLarge, LaneFull}
use Rattle.fts_model.specs.Limits.{most_merged}
use Rattle.fts_model.specs.declared.operation.Op.{Op}
use Rattle.fts_model.specs.declared.query.Request.{Request}
use Rattle.fts_model.specs.QueryValues.{QueryValue}
use Rattle.fts_model.specs.Answers.{AnswerValue, answer}
use Rattle.fts_engine.specs.Carriers.{Carrier}

-- the most operations that are uncommitted
abbrev pub most_uncommitted : ℕ
most_uncommitted = 1000000

-- the stamp of the next operation or commit: that of the last commit, the number of uncommitted operations, and one
abbrev pub next_stamp : {S : Type 0} → Carrier S → S → ℕ
next_stamp on s = on.commit_stamp s + on.uncommitted s + 1

-- An operation is taken, and its stamp is answered.
abbrev pub submit : {S : Type 0} → Carrier S → Op → S → Result (S × ℕ) Refusal
submit on op s =
    if nat_lt (on.uncommitted s) most_uncommitted then Ok (on.submitted op s, next_stamp on s) else Err LaneFull

-- The uncommitted operations are committed, and the commit's stamp is answered.
abbrev pub commit : {S : Type 0} → Carrier S → S → Result (S × ℕ) Refusal
commit on s = Ok (on.committed s, next_stamp on s)

-- The uncommitted operations are given up, and the last commit's stamp is answered.
abbrev pub rollback : {S : Type 0} → Carrier S → S → Result (S × ℕ) Refusal
rollback on s = Ok (on.rolled_back s, on.commit_stamp s)

-- The documents of the last commit are merged, which changes nothing that is found, and their number is answered.
abbrev pub merge : {S : Type 0} → Carrier S → S → Result (S × ℕ) Refusal
merge on s = if nat_lt most_merged (length (on.documents s)) then Err TooLarge else Ok (s, length (on.documents s))

-- The documents of the last commit are searched.
abbrev pub search_commit : {S : Type 0} → Carrier S → QueryValue → Request → S → Result (S × AnswerValue) Refusal
search_commit on query request s = Ok (s, answer (on.schema s) query request (on.documents s))

-- What a call made of an index, and what it answered, are those of a step. At a refusal the index is as it was, and
-- the refusal is the step's, or memory ran out.
abbrev pub Steps : {S X : Type 0} → Result (S × X) Refusal → S → S → Result X Refusal → Type 0
Steps step old new (Ok x) = step ≡ Ok (new, x)
Steps step old new (Err refusal) = (new ≡ old) × ((refusal ≡ Memory) ⊎ (step ≡ Err refusal))
