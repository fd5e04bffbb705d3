use Rattle.std.proofs.Common.{◌+◌, ◌==◌, ◌&&◌}
use Rattle.std.specs.Str.{bytes_eq}
use Rattle.fts_scan.specs.Scans.{strings}
use Rattle.fts_scan.proofs.PlacesSought.{SeeksOn}
use Rattle.fts_scan.proofs.matcher.stands_with.Given as goal

abbrev pub invariant-loop-number : goal.invariant-loop-number
invariant-loop-number l = SeeksOn (strings l.fn.texts) (λ t. (t.0 + l.member.0 == l.sum) && bytes_eq t.1 l.other.1) l.number l.first
