-- What lies before `low` is below the target, and what is at `high` isn't.
use Rattle.std.proofs.Common.{◌-◌, ◌<◌, ◌≤◌, [], get_or}
use Rattle.fts_pack.specs.Documents.{last_of}
use Rattle.fts_postings.proofs.posting.block_between.Given as goal

abbrev pub invariant-loop-low : goal.invariant-loop-low
invariant-loop-low g l =
    let blocks = g.B.Blocks.contents l.source in
    record {
      low_within : l.from ≤ l.low;
      order : l.low ≤ l.high;
      high_within : l.high ≤ l.to;
      before : l.from < l.low → last_of (get_or blocks (l.low - 1) []) < l.target;
      here : l.high < l.to → l.target ≤ last_of (get_or blocks l.high []);
    }

abbrev pub decreases-loop-low : goal.decreases-loop-low
decreases-loop-low g l = l.high - l.low
