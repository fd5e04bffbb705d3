use Rattle.std.proofs.Common.{◌+◌, sym, subst}
use Rattle.fts_segment.proofs.FieldLemmas.{AreFirst, AreFirst-push}
use Rattle.fts_segment.proofs.joining.Joining.fields_in_turn.Goals as goal

pub loop-number-preserved : goal.loop-number-preserved
loop-number-preserved c =
    subst (AreFirst c.args.self.now (c.loop-number.number + 1)) (sym c.in_ok-push.ensures.items)
    (AreFirst-push c.in_ok-field.field-0 c.in_ok-field.ensures c.loop-number.invariant)
