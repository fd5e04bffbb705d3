use Rattle.std.proofs.Common.{◌≡◌, ◌*◌, length, take}
use Rattle.std.specs.List.{fold}
use Rattle.fts_pack.specs.ListRef.{listed}
use Rattle.fts_pack.specs.Documents.{blocks_of}
use Rattle.fts_pack.specs.ListSource.{documents_in}
use Rattle.fts_merge.specs.Internals.Deletes.{cleared}
use Rattle.fts_merge.proofs.live_strike.strike_list.Given as goal

abbrev pub invariant-loop-block : goal.invariant-loop-block
invariant-loop-block l = record {
  bits : length l.live ≡ length l.segment.documents;
  blocks : blocks_of (documents_in l.source) ≡ blocks_of (listed l.list);
  struck : l.live ≡ fold (cleared l.segment.documents l.stamp) l.fn.live (take (l.block * 128) (listed l.list));
}
