use Rattle.std.proofs.Common.{◌+◌, ◌==◌, ◌&&◌, length}
use Rattle.std.specs.Str.{bytes_eq}
use Rattle.fts_text.specs.Places.{places_left}
use Rattle.fts_scan.proofs.PlacesSought.{Seeks}
use Rattle.fts_scan.proofs.matcher.seek_token_at.Given as goal

abbrev pub invariant-loop-place : goal.invariant-loop-place
invariant-loop-place l = Seeks l.fn.first l.text (λ t. (t.0 + l.fn.offset == l.fn.sum) && bytes_eq t.1 l.token) l.tokens

abbrev pub decreases-loop-place : goal.decreases-loop-place
decreases-loop-place l = length (places_left l.tokens)
