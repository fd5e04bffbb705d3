-- An index, carried as the commands that were accepted: all that a user need remember.
use Rattle.std.specs.Prelude.{ℕ, ◌+◌, ◌||◌, Bool, true, false, List, [], ◌∷◌, ◌++◌, length, if◌then◌else◌}
use Rattle.std.specs.List.{list_any}
use Rattle.fts_model.specs.declared.schema.Field.{Field}
use Rattle.fts_model.specs.declared.operation.Op.{Op}
use Rattle.fts_model.specs.declared.operation.Stamped.{Stamped}
use Rattle.fts_model.specs.Operations.{alive}
use Rattle.fts_engine.specs.Carriers.{Carrier}

-- an accepted command that changes an index: an operation, a commit or a rollback
pub data Accepted : Type 0 where
  Submitted : Op → Accepted
  Committed : Accepted
  RolledBack : Accepted

-- whether these commands take back what comes before them: there is a rollback, and no commit before it
abbrev pub take_back : List Accepted → Bool
take_back [] = false
take_back (Submitted op ∷ cs) = take_back cs
take_back (Committed ∷ cs) = false
take_back (RolledBack ∷ cs) = true

-- a command that no rollback took back: an operation, or a commit
pub data Kept : Type 0 where
  Operation : Op → Kept
  CommitPoint : Kept

-- the operations and the commits, without the operations that a rollback took back
abbrev pub kept : List Accepted → List Kept
kept [] = []
kept (Submitted op ∷ cs) = if take_back cs then kept cs else Operation op ∷ kept cs
kept (Committed ∷ cs) = CommitPoint ∷ kept cs
kept (RolledBack ∷ cs) = kept cs

abbrev pub is_commit : Kept → Bool
is_commit (Operation op) = false
is_commit CommitPoint = true

-- the members of `kept` up to the last commit
abbrev pub up_to_commit : List Kept → List Kept
up_to_commit [] = []
up_to_commit (k ∷ ks) = if is_commit k || list_any is_commit ks then k ∷ up_to_commit ks else []

-- the members of `kept` since the last commit
abbrev pub since_commit : List Kept → List Kept
since_commit [] = []
since_commit (k ∷ ks) = if is_commit k || list_any is_commit ks then since_commit ks else k ∷ ks

-- the operations among these, each with its place as its stamp, the first at n
abbrev pub stamped_from : ℕ → List Kept → List (Stamped Op)
stamped_from n [] = []
stamped_from n (Operation op ∷ ks) = record { stamp = n; value = op } ∷ stamped_from (n + 1) ks
stamped_from n (CommitPoint ∷ ks) = stamped_from (n + 1) ks

-- the operations that were committed, with their stamps: their places among all operations and commits that no rollback
-- took back, from 1
abbrev pub committed : List Accepted → List (Stamped Op)
committed cs = stamped_from 1 (up_to_commit (kept cs))

-- a schema, and the commands that were accepted under it
pub record History : Type 0 where
  pub schema : List Field
  pub accepted : List Accepted

-- a history with one more command
abbrev pub and_then : Accepted → History → History
and_then c h = record { schema = h.schema; accepted = h.accepted ++ c ∷ [] }

-- an index carried as its history: the documents found are those alive after the operations that were committed
abbrev pub histories : Carrier History
histories = record {
  opened = λ schema. record { schema = schema; accepted = [] };
  submitted = λ op h. and_then (Submitted op) h;
  committed = λ h. and_then Committed h;
  rolled_back = λ h. and_then RolledBack h;
  schema = λ h. h.schema;
  documents = λ h. alive h.schema (committed h.accepted);
  commit_stamp = λ h. length (up_to_commit (kept h.accepted));
  uncommitted = λ h. length (since_commit (kept h.accepted));
}
