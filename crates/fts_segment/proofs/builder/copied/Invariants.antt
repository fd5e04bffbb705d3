use Rattle.std.proofs.Common.{◌≡◌, take}
use Rattle.fts_segment.proofs.builder.copied.Given as goal

abbrev pub invariant-loop-document : goal.invariant-loop-document
invariant-loop-document l = l.copies.items ≡ take l.document-index l.documents
