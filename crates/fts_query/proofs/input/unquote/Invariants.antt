use Rattle.std.proofs.Common.{◌≡◌, ◌≤◌, ◌+◌, length, false}
use Rattle.std.specs.String.{string_bytes}
use Rattle.std.specs.Str.{chars}
use denote.Shadow.{shadow}
use denote.Text.{Utf8}
use Rattle.fts_query.specs.Reading.{unquoted, in_bytes}
use Rattle.fts_query.proofs.ReadingLemmas.{with_front}
use Rattle.fts_query.proofs.input.unquote.Given as goal

abbrev pub invariant-loop-c : goal.invariant-loop-c
invariant-loop-c l =
    (with_front (string_bytes l.unquoted) (in_bytes (unquoted l.escaped (chars l.rest))) ≡ in_bytes (unquoted false (chars l.fn.text)))
    × (length (string_bytes l.unquoted) + length l.rest ≤ length l.fn.text)
    × shadow (Utf8 l.rest)

abbrev pub decreases-loop-c : goal.decreases-loop-c
decreases-loop-c l = length (chars l.rest)
