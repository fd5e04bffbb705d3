use Rattle.fts_segment.proofs.OccurrencesLemmas.{LogsOn}
use Rattle.fts_segment.proofs.token_log.push_texts.Given as goal

abbrev pub invariant-loop-number : goal.invariant-loop-number
invariant-loop-number l = LogsOn l.texts l.doc l.fn.log l.log l.number l.first
