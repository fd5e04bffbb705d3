-- What is stored of a line that comes in pieces: enough for its reply.
use Rattle.std.specs.Prelude.{ℕ, ◌+◌, ◌&&◌, ◌++◌, Bool, true, false, Option, None, Some, List, [], length, drop, nat_lt}
use Rattle.std.specs.Prelude.{if◌then◌else◌}
use Rattle.std.specs.List.{prefix_len}
use Rattle.fts_base.specs.declared.refusal.Refusal.TheVariants.{LineTooLong}
use Rattle.fts_script.specs.session.Text.{is_white, is_blank}
use Rattle.fts_script.specs.command.Commands.{longest}
use Rattle.fts_script.specs.session.Replies.{line_of, refusal_reply}
use Rattle.fts_script.specs.session.Outputs.{SessionValue, after_line, reply_to}

-- what is stored of a line: how many spaces, tabs and CRs it begins with, and what follows them; if it is too long,
-- only whether it is blank
pub data KeptLine : Type 0 where
  Short : ℕ → List ℕ → KeptLine
  TooLong : Bool → KeptLine

-- what is stored of this many spaces, tabs and CRs followed by these bytes
abbrev pub indented : ℕ → List ℕ → KeptLine
indented white bytes =
    if nat_lt longest (white + length bytes) then TooLong (is_blank bytes)
    else Short (white + prefix_len is_white bytes) (drop (prefix_len is_white bytes) bytes)

-- what is stored of a line
abbrev pub kept_line : List ℕ → KeptLine
kept_line line = indented 0 line

-- what is stored once a piece of the line comes after it
abbrev pub grown : KeptLine → List ℕ → KeptLine
grown (Short white bytes) piece = indented white (bytes ++ piece)
grown (TooLong blank) piece = TooLong (blank && is_blank piece)

abbrev pub is_blank_kept : KeptLine → Bool
is_blank_kept (Short white bytes) = is_blank bytes
is_blank_kept (TooLong blank) = blank

-- the reply to a line that is stored as this; white space before the rest has no effect on it
abbrev pub reply_to_kept : SessionValue → KeptLine → List ℕ
reply_to_kept s (Short white bytes) = reply_to s bytes
reply_to_kept s (TooLong true) = []
reply_to_kept s (TooLong false) = line_of (refusal_reply LineTooLong (s.number + 1))

-- the script after a line that is stored as this
abbrev pub after_kept : SessionValue → KeptLine → SessionValue
after_kept s (Short white bytes) = after_line s bytes
after_kept s (TooLong blank) = record { number = s.number + 1; index = s.index }

-- whether the line is blank, once it is too long
abbrev pub too_long_in : KeptLine → Option Bool
too_long_in (Short white bytes) = None
too_long_in (TooLong blank) = Some blank

-- the bytes after the white space
abbrev pub bytes_in : KeptLine → List ℕ
bytes_in (Short white bytes) = bytes
bytes_in (TooLong blank) = []

-- what the fields of a partial line store
abbrev pub kept_in : Option Bool → ℕ → List ℕ → KeptLine
kept_in None white bytes = Short white bytes
kept_in (Some blank) white bytes = TooLong blank
