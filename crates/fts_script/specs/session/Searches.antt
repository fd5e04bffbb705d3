-- What a script replies if it takes nothing but searches, whose replies may show only some fields of the documents.
use Rattle.std.specs.Prelude.{ℕ, ◌+◌, List, Result, Ok, Err, Option, Some, None, is_some, option_map, if◌then◌else◌}
use Rattle.std.specs.List.{list_all}
use Rattle.fts_base.specs.declared.refusal.Refusal.{Refusal}
use Rattle.fts_base.specs.declared.refusal.Refusal.TheVariants.{BadCommand, NoSchema, UnknownField}
use Rattle.fts_base.specs.Results.{result_and_then, result_map}
use Rattle.fts_model.specs.declared.query.Request.{Request}
use Rattle.fts_model.specs.declared.schema.Field.{Field}
use Rattle.fts_model.specs.Queries.{request_of}
use Rattle.fts_model.specs.Schemas.{field_named}
use Rattle.fts_query.specs.Answers.{answer as query_of}
use Rattle.fts_script.specs.command.AnswerData.{answer_data}
use Rattle.fts_script.specs.command.Commands.{Command, Find, Search, command}
use Rattle.fts_script.specs.command.Cuts.{cut_answer, names_in}
use Rattle.fts_engine.specs.Carriers.{Carrier}
use Rattle.fts_engine.specs.Indexes.{indexes}
use Rattle.fts_engine.specs.Steps.{search_commit}
use Rattle.fts_script.specs.session.Replies.{Outcome, execute, replied, text_of}
use Rattle.fts_script.specs.session.Outputs.{SessionValue}

-- a request, if there is a field of each of these names
abbrev pub if_fields : List Field → Option (List (List ℕ)) → Result Request Refusal → Result Request Refusal
if_fields schema None asked = asked
if_fields schema (Some names) asked = result_and_then (λ request.
    if list_all (λ name. is_some (field_named name schema)) names then Ok request else Err UnknownField) asked

-- The query is looked at first, then the groups and the top list, then the names. The answer is that of the search,
-- with the documents of its hits cut to the fields of these names, if there are names.
abbrev pub answer_cut : {S : Type 0} → Carrier S → Search → Option (List (List ℕ)) → S → Result (Outcome S) Refusal
answer_cut on asked names s =
    result_and_then (λ query. result_and_then (λ request.
    replied (λ a. answer_data (cut_answer names a)) (search_commit on query request s))
    (if_fields (on.schema s) names (request_of (on.schema s) asked.groups asked.top)))
    (query_of (on.schema s) asked.query)

-- the outcome of a search, which is a script's if there are no names; another command is refused
abbrev pub search_only : {S : Type 0} → Carrier S → Option S → Option (List (List ℕ)) → Command →
    Result (Outcome S) Refusal
search_only on index None (Find asked) = execute on index (Find asked)
search_only on (Some s) (Some names) (Find asked) = answer_cut on asked (Some names) s
search_only on None (Some names) (Find asked) = Err NoSchema
search_only on index names other = Err BadCommand

-- the names that a line lists, if there is a line
abbrev pub listed_in : Option (List ℕ) → Result (Option (List (List ℕ))) Refusal
listed_in None = Ok None
listed_in (Some line) = result_map Some (names_in line)

-- the outcome of a line that is a search, and of one that lists names, if there is one: both are read before anything
-- is looked for
abbrev pub search_line : {S : Type 0} → Carrier S → Option S → List ℕ → Option (List ℕ) → Result (Outcome S) Refusal
search_line on index line names =
    result_and_then (λ asked. result_and_then (λ listed. search_only on index listed asked) (listed_in names))
    (command line)

-- the reply to a line if only searches are taken, cut to the fields that another line lists, if there is one; the
-- script is as before after it
abbrev pub reply_to_search : SessionValue → List ℕ → Option (List ℕ) → List ℕ
reply_to_search s line names = text_of (s.number + 1) (search_line indexes s.index line names)

-- a script before its first line, over the last commit of another
abbrev pub at_commit : SessionValue → SessionValue
at_commit s = record { number = 0; index = option_map indexes.rolled_back s.index }
