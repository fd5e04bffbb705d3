use Rattle.std.proofs.Common.{◌≡◌, ◌≤◌, length}
use Rattle.std.specs.Str.{chars}
use denote.Shadow.{shadow}
use denote.Text.{Utf8}
use Rattle.fts_query.specs.Reading.{skip_while, is_of}
use Rattle.fts_query.proofs.input.skip_while.Given as goal

abbrev pub invariant-loop-c : goal.invariant-loop-c
invariant-loop-c l = (skip_while (is_of l.class) (chars l.rest) ≡ skip_while (is_of l.class) (chars l.fn.text)) × (length l.rest ≤ length l.fn.text)
    × shadow (Utf8 l.rest)

abbrev pub decreases-loop-c : goal.decreases-loop-c
decreases-loop-c l = length (chars l.rest)
