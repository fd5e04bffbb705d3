use Rattle.std.proofs.Common.{◌≡◌, take}
use Rattle.fts_model.specs.Answers.{top}
use Rattle.fts_scan.proofs.answers.top.Given as goal

abbrev pub invariant-loop-hit : goal.invariant-loop-hit
invariant-loop-hit l = l.list.items ≡ top l.wanted.k l.wanted.order l.wanted.by (take l.hit-index l.hits)
