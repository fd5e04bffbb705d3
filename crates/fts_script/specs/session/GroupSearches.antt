-- A search whose reply shows the most frequent groups alone.
use Rattle.std.specs.Prelude.{ℕ, ◌+◌, List, Result, Err, Option, Some, None}
use Rattle.fts_base.specs.declared.refusal.Refusal.{Refusal}
use Rattle.fts_base.specs.declared.refusal.Refusal.TheVariants.{BadCommand, NoSchema}
use Rattle.fts_base.specs.Results.{result_and_then}
use Rattle.fts_model.specs.Queries.{request_of}
use Rattle.fts_query.specs.Answers.{answer as query_of}
use Rattle.fts_script.specs.command.AnswerData.{answer_data}
use Rattle.fts_script.specs.command.Commands.{Command, Find, Search, command}
use Rattle.fts_script.specs.command.MostFrequent.{with_most_frequent}
use Rattle.fts_engine.specs.Carriers.{Carrier}
use Rattle.fts_engine.specs.Indexes.{indexes}
use Rattle.fts_engine.specs.Steps.{search_commit}
use Rattle.fts_script.specs.session.Replies.{Outcome, replied, text_of}
use Rattle.fts_script.specs.session.Outputs.{SessionValue}

-- The query is looked at first, then the groups and the top list. The answer is that of the search, with its most
-- frequent groups alone.
abbrev pub answer_frequent : {S : Type 0} → Carrier S → Search → ℕ → S → Result (Outcome S) Refusal
answer_frequent on asked limit s =
    result_and_then (λ query. result_and_then (λ request.
    replied (λ a. answer_data (with_most_frequent limit a)) (search_commit on query request s))
    (request_of (on.schema s) asked.groups asked.top))
    (query_of (on.schema s) asked.query)

-- the outcome of a search; another command is refused
abbrev pub find_frequent : {S : Type 0} → Carrier S → Option S → ℕ → Command → Result (Outcome S) Refusal
find_frequent on (Some s) limit (Find asked) = answer_frequent on asked limit s
find_frequent on None limit (Find asked) = Err NoSchema
find_frequent on index limit other = Err BadCommand

-- the outcome of a line that is a search
abbrev pub find_frequent_line : {S : Type 0} → Carrier S → Option S → List ℕ → ℕ → Result (Outcome S) Refusal
find_frequent_line on index line limit = result_and_then (find_frequent on index limit) (command line)

-- the reply to a search, with its most frequent groups alone
abbrev pub reply_to_group_search : SessionValue → List ℕ → ℕ → List ℕ
reply_to_group_search s line limit = text_of (s.number + 1) (find_frequent_line indexes s.index line limit)
