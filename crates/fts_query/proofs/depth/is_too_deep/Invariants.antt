use Rattle.std.proofs.Common.{◌≡◌, ◌≤◌, length}
use Rattle.std.specs.Str.{chars}
use denote.Shadow.{shadow}
use denote.Text.{Utf8}
use Rattle.fts_query.specs.declared.depth.Quoting.TheVariants.{Outside}
use Rattle.fts_query.specs.Outcomes.{is_too_deep}
use Rattle.fts_query.proofs.depth.is_too_deep.Given as goal

abbrev pub invariant-loop-c : goal.invariant-loop-c
invariant-loop-c l = (is_too_deep l.quoting l.depth (chars l.rest) ≡ is_too_deep Outside 0 (chars l.fn.text)) × (l.depth ≤ 32) × shadow (Utf8 l.rest)

abbrev pub decreases-loop-c : goal.decreases-loop-c
decreases-loop-c l = length (chars l.rest)
