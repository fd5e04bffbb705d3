use Rattle.std.proofs.Common.{length}
use Rattle.fts_text.specs.Tokens.{tokens_of_texts}
use Rattle.fts_text.specs.Places.{places_left}
use Rattle.fts_model.specs.Queries.{leads}
use Rattle.fts_scan.specs.Scans.{strings}
use Rattle.fts_scan.proofs.PlacesSought.{Seeks, SeeksOn}
use Rattle.fts_scan.proofs.matcher.any_leads.Given as goal

abbrev pub invariant-loop-number : goal.invariant-loop-number
invariant-loop-number l = SeeksOn (strings l.fn.texts) (leads (tokens_of_texts 0 (strings l.fn.texts)) l.first l.others) l.number l.start

abbrev pub invariant-loop-place : goal.invariant-loop-place
invariant-loop-place l = Seeks l.start l.text (leads (tokens_of_texts 0 (strings l.fn.texts)) l.first l.others) l.tokens

abbrev pub decreases-loop-place : goal.decreases-loop-place
decreases-loop-place l = length (places_left l.tokens)
