use Rattle.std.proofs.Common.{◌≡◌, ◌++◌, ◌+◌, drop, count_by}
use Rattle.fts_segment.specs.Parts.{renumbered}
use Rattle.fts_segment.proofs.doc_map.renumber.Given as goal

abbrev pub invariant-loop-document : goal.invariant-loop-document
invariant-loop-document l = record {
  within : l.next + count_by (λ bit. bit) (drop l.document l.live) ≡ l.first + count_by (λ bit. bit) l.live;
  numbered : l.numbers.items ++ renumbered l.next (drop l.document l.live) ≡ renumbered l.first l.live;
}
