use Rattle.fts_segment.proofs.FieldLemmas.{AreFirst}
use Rattle.fts_segment.proofs.joining.Joining.fields_in_turn.Given as goal

abbrev pub invariant-loop-number : goal.invariant-loop-number
invariant-loop-number l = AreFirst l.self l.number l.fields.items
