use Rattle.std.proofs.Common.{◌≡◌, length, take}
use Rattle.fts_merge.specs.Strikes.{bits_where}
use Rattle.fts_merge.specs.Internals.Deletes.{survives_found}
use Rattle.fts_merge.proofs.live_strike.strike_found.Given as goal

abbrev pub invariant-loop-number : goal.invariant-loop-number
invariant-loop-number l = record {
  bits : length l.live ≡ length l.segment.documents;
  struck : l.live ≡ bits_where (survives_found l.segment.schema (take l.number l.deletes)) l.segment.documents l.fn.live;
}
