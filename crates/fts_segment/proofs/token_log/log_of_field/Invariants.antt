use Rattle.std.proofs.Common.{◌≡◌, All, take}
use Rattle.fts_segment.specs.Occurrences.{occurrences, values_in, HasFewTokens}
use Rattle.fts_segment.proofs.token_log.log_of_field.Given as goal

abbrev pub invariant-loop-doc : goal.invariant-loop-doc
invariant-loop-doc l = (l.log ≡ occurrences l.kind 0 (values_in l.field (take l.doc l.documents)))
    × All (HasFewTokens l.kind) (values_in l.field (take l.doc l.documents))
