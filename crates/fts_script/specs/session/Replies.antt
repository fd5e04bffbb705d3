-- What a script replies: its lines, the command that each is, a step for each command, and the reply that prints it.
use Rattle.std.specs.Prelude.{ℕ, ◌+◌, List, [], ◌∷◌, ◌++◌, length, codes, Result, Ok, Err, Option, Some, None}
use Rattle.std.specs.Prelude.{if◌then◌else◌}
use Rattle.serde_json.specs.Data.{Data, number, unsigned, string, object, member, no_members}
use Rattle.serde_json.specs.Written.{compact_text}
use Rattle.fts_base.specs.declared.refusal.Refusal.{Refusal}
use Rattle.fts_base.specs.declared.refusal.Refusal.TheVariants.{NoSchema, SchemaTwice}
use Rattle.fts_model.specs.declared.operation.Op.TheVariants as ops
use Rattle.fts_base.specs.Refusals.{name_of}
use Rattle.fts_base.specs.Results.{ok_unless, result_and_then, result_map}
use Rattle.fts_model.specs.Schemas.{schema_fault}
use Rattle.fts_model.specs.Documents.{document_of}
use Rattle.fts_model.specs.Operations.{term_of}
use Rattle.fts_model.specs.Queries.{request_of}
use Rattle.fts_query.specs.Answers.{answer as query_of}
use Rattle.fts_script.specs.session.Text.{lines_of, is_blank}
use Rattle.fts_script.specs.command.Commands.{Command, Schema, Add, Delete, DeleteAll, Commit, Rollback, Merge, Find}
use Rattle.fts_script.specs.command.Commands.{Search, command}
use Rattle.fts_script.specs.command.AnswerData.{answer_data}
use Rattle.fts_engine.specs.Carriers.{Carrier}
use Rattle.fts_engine.specs.Steps.{submit, commit, rollback, merge, search_commit}

-- an object of a name and a number
abbrev pub number_reply : List ℕ → ℕ → Data
number_reply name n = object (member name (number (unsigned n)) no_members)

-- a refusal in the line of this number
abbrev pub refusal_reply : Refusal → ℕ → Data
refusal_reply refusal line =
    object (member (codes "error") (string (name_of refusal))
    (member (codes "line") (number (unsigned line)) no_members))

-- what a command leaves, and its reply
pub record Outcome (S : Type 0) : Type 0 where
  pub index : Option S
  pub reply : Data

-- the outcome of a step: its answer as the JSON that prints it
abbrev pub replied : {S X : Type 0} → (X → Data) → Result (S × X) Refusal → Result (Outcome S) Refusal
replied print step = result_map (λ done. record { index = Some done.0; reply = print done.1 }) step

-- The last commit is searched: the query is looked at first, then the groups and the top list. `query_of` reads the
-- text from the left; by `fts_query`'s law `each_text_has_an_outcome` it is the one outcome that the grammar gives it.
abbrev pub answer_search : {S : Type 0} → Carrier S → Search → S → Result (Outcome S) Refusal
answer_search on asked s =
    result_and_then (λ query. result_and_then (λ request. replied answer_data (search_commit on query request s))
    (request_of (on.schema s) asked.groups asked.top)) (query_of (on.schema s) asked.query)

-- what a command does to an index, if there is one, or its refusal
abbrev pub execute : {S : Type 0} → Carrier S → Option S → Command → Result (Outcome S) Refusal
execute on None (Schema fields) =
    ok_unless (schema_fault fields)
    (record { index = Some (on.opened fields); reply = number_reply (codes "fields") (length fields) })
execute on None (Add value) = Err NoSchema
execute on None (Delete name value) = Err NoSchema
execute on None DeleteAll = Err NoSchema
execute on None Commit = Err NoSchema
execute on None Rollback = Err NoSchema
execute on None Merge = Err NoSchema
execute on None (Find asked) = Err NoSchema
execute on (Some s) (Schema fields) = Err SchemaTwice
execute on (Some s) (Add value) =
    result_and_then (λ document. replied (number_reply (codes "stamp")) (submit on (ops.Add document) s))
    (document_of (on.schema s) value)
execute on (Some s) (Delete name value) =
    result_and_then (λ term. replied (number_reply (codes "stamp")) (submit on (ops.Delete term) s))
    (term_of (on.schema s) name value)
execute on (Some s) DeleteAll = replied (number_reply (codes "stamp")) (submit on ops.DeleteAll s)
execute on (Some s) Commit = replied (number_reply (codes "commit")) (commit on s)
execute on (Some s) Rollback = replied (number_reply (codes "rollback")) (rollback on s)
execute on (Some s) Merge = replied (number_reply (codes "merged")) (merge on s)
execute on (Some s) (Find asked) = answer_search on asked s

-- what a line that isn't blank does, or its refusal
abbrev pub execute_line : {S : Type 0} → Carrier S → Option S → List ℕ → Result (Outcome S) Refusal
execute_line on index line = result_and_then (execute on index) (command line)

-- the index after a line
abbrev pub index_after : {S : Type 0} → Option S → Result (Outcome S) Refusal → Option S
index_after index (Ok done) = done.index
index_after index (Err refusal) = index

-- the reply, on a line of its own
abbrev pub line_of : Data → List ℕ
line_of reply = compact_text reply ++ 10 ∷ []

abbrev pub text_of : {S : Type 0} → ℕ → Result (Outcome S) Refusal → List ℕ
text_of line (Ok done) = line_of done.reply
text_of line (Err refusal) = line_of (refusal_reply refusal line)

-- what is carried from line to line: how many lines there were, and the index, once a schema was taken
pub record Carried (S : Type 0) : Type 0 where
  pub number : ℕ
  pub index : Option S

-- what is carried after a line
unfoldable pub carried_over : {S : Type 0} → Carrier S → Carried S → List ℕ → Carried S
carried_over on s line = record {
  number = s.number + 1;
  index = if is_blank line then s.index else index_after s.index (execute_line on s.index line);
}

-- what is replied to a line: nothing to a blank one
unfoldable pub reply_on : {S : Type 0} → Carrier S → Carried S → List ℕ → List ℕ
reply_on on s line = if is_blank line then [] else text_of (s.number + 1) (execute_line on s.index line)

-- the replies to lines, in order
abbrev pub replies_on : {S : Type 0} → Carrier S → Carried S → List (List ℕ) → List ℕ
replies_on on s [] = []
replies_on on s (line ∷ lines) = reply_on on s line ++ replies_on on (carried_over on s line) lines

-- what is written for a whole input, if an index is carried so
abbrev pub output_on : {S : Type 0} → Carrier S → List ℕ → List ℕ
output_on on input = replies_on on (record { number = 0; index = None }) (lines_of input)
