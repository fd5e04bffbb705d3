use Rattle.std.specs.Str.{bytes_eq}
use Rattle.fts_scan.specs.Scans.{strings}
use Rattle.fts_scan.proofs.PlacesSought.{SeeksOn}
use Rattle.fts_scan.proofs.terms.has_token.Given as goal

abbrev pub invariant-loop-number : goal.invariant-loop-number
invariant-loop-number l = SeeksOn (strings l.fn.texts) (λ t. bytes_eq t.1 l.token) l.number l.first
