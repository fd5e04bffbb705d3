use Rattle.std.proofs.Common.{◌≡◌, ◌++◌, drop}
use Rattle.fts_merge.specs.Merges.{origins_in}
use Rattle.fts_merge.proofs.MergeLemmas.{origins_behind}
use Rattle.fts_merge.proofs.segment_merge.push_origins.Given as goal

abbrev pub invariant-loop-document : goal.invariant-loop-document
invariant-loop-document l = l.origins.items ++ origins_behind l.number l.document (drop l.document l.live) ≡ l.fn.origins.items ++ origins_in l.number l.live
