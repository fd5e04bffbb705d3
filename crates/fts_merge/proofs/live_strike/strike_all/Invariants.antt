use Rattle.std.proofs.Common.{◌≡◌, length}
use Rattle.std.specs.List.{fold, range_with_len}
use Rattle.fts_merge.specs.Internals.Deletes.{cleared}
use Rattle.fts_merge.proofs.live_strike.strike_all.Given as goal

abbrev pub invariant-loop-document : goal.invariant-loop-document
invariant-loop-document l = record {
  bits : length l.live ≡ length l.segment.documents;
  struck : l.live ≡ fold (cleared l.segment.documents l.stamp) l.fn.live (range_with_len 0 l.document);
}
