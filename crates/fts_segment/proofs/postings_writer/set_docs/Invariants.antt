use Rattle.std.proofs.Common.{◌≡◌, map, take}
use Rattle.fts_segment.specs.declared.term_groups.DocPosition.{DocPosition}
use Rattle.fts_segment.proofs.postings_writer.set_docs.Given as goal

abbrev pub invariant-loop-place : goal.invariant-loop-place
invariant-loop-place l = l.docs.items ≡ map (λ (p : DocPosition). p.doc) (take l.place-index l.places)
