use Rattle.std.proofs.Common.{◌≡◌, take}
use Rattle.fts_model.specs.Answers.{groups_in}
use Rattle.fts_scan.proofs.answers.values_in.Given as goal

abbrev pub invariant-loop-hit : goal.invariant-loop-hit
invariant-loop-hit l = l.values.items ≡ groups_in l.field (take l.hit-index l.hits)
