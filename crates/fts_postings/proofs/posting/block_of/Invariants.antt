-- What lies before `low` is below the target.
use Rattle.std.proofs.Common.{◌-◌, ◌<◌, ◌≤◌, [], length, get_or}
use Rattle.fts_pack.specs.Documents.{last_of}
use Rattle.fts_postings.proofs.posting.block_of.Given as goal

abbrev pub invariant-loop-low : goal.invariant-loop-low
invariant-loop-low g l =
    let blocks = g.B.Blocks.contents l.source in
    record {
      low_within : l.from ≤ l.low;
      high_within : l.low ≤ length blocks;
      before : l.from < l.low → last_of (get_or blocks (l.low - 1) []) < l.target;
    }

abbrev pub decreases-loop-low : goal.decreases-loop-low
decreases-loop-low g l = l.to - l.low
