use Rattle.std.proofs.Common.{◌≡◌, ◌++◌, take, drop, map, flat_map}
use Rattle.fts_segment.specs.Parts.{given, passed}
use Rattle.fts_segment.specs.Puts.{Puts}
use Rattle.fts_segment.proofs.term_merge.take_from_each.Given as goal

abbrev pub invariant-loop-part : goal.invariant-loop-part
invariant-loop-part l = record {
  passed_are : l.part-items ≡ map (passed l.term) (take l.part-index l.fn.parts) ++ drop l.part-index l.fn.parts;
  puts : Puts (flat_map (given l.term) (take l.part-index l.fn.parts)) l.fn.docs.items l.fn.log l.docs.items l.log;
}
