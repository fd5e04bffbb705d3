use Rattle.std.proofs.Common.{◌≡◌, None, drop}
use Rattle.fts_segment.specs.Parts.{least_of}
use Rattle.fts_segment.proofs.term_merge.least.Given as goal

abbrev pub invariant-loop-part : goal.invariant-loop-part
invariant-loop-part l = least_of l.least (drop l.part-index l.parts) ≡ least_of None l.parts
