-- The output of a script, over an index and over its history.
use Rattle.std.specs.Prelude.{ℕ, List, [], ◌∷◌, None}
use Rattle.fts_engine.specs.Indexes.{Index, indexes}
use Rattle.fts_engine.specs.Histories.{histories}
use Rattle.fts_script.specs.session.Replies.{Carried, carried_over, reply_on, replies_on, output_on}

-- a script as a run carries it: over an index
abbrev pub SessionValue : Type 0
SessionValue = Carried Index

-- the script before the first line
abbrev pub start : SessionValue
start = record { number = 0; index = None }

-- what a line makes of a script
abbrev pub after_line : SessionValue → List ℕ → SessionValue
after_line = carried_over indexes

-- what a script replies to a line
abbrev pub reply_to : SessionValue → List ℕ → List ℕ
reply_to = reply_on indexes

-- the replies to these lines, in order
abbrev pub replies : SessionValue → List (List ℕ) → List ℕ
replies = replies_on indexes

-- the script after these lines
abbrev pub after_lines : SessionValue → List (List ℕ) → SessionValue
after_lines s [] = s
after_lines s (line ∷ lines) = after_lines (after_line s line) lines

-- what is written for an input: the replies to its lines, in order
abbrev pub output : List ℕ → List ℕ
output = output_on indexes

-- the output by the history of accepted commands. A stamp is a command's place among those that no rollback took back.
-- A search sees the documents alive after the operations before the last commit.
abbrev pub output_by_commands : List ℕ → List ℕ
output_by_commands = output_on histories
