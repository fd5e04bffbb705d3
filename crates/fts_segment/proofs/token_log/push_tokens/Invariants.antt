use Rattle.std.proofs.Common.{length}
use Rattle.fts_text.specs.Places.{places_left}
use Rattle.fts_segment.proofs.OccurrencesLemmas.{Logs}
use Rattle.fts_segment.proofs.token_log.push_tokens.Given as goal

abbrev pub invariant-loop-token : goal.invariant-loop-token
invariant-loop-token l = Logs l.fn.first l.text l.doc l.fn.log l.log l.tokens

abbrev pub decreases-loop-token : goal.decreases-loop-token
decreases-loop-token l = length (places_left l.tokens)
