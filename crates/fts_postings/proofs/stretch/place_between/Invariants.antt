-- What lies before `low` is below the target, and what is at `high` isn't.
use Rattle.std.proofs.Common.{◌-◌, ◌<◌, ◌≤◌, get_or}
use Rattle.fts_postings.proofs.stretch.place_between.Given as goal

abbrev pub invariant-loop-low : goal.invariant-loop-low
invariant-loop-low l = record {
  low_within : l.from ≤ l.low;
  order : l.low ≤ l.high;
  high_within : l.high ≤ l.to;
  before : l.from < l.low → get_or l.numbers (l.low - 1) 0 < l.target;
  here : l.high < l.to → l.target ≤ get_or l.numbers l.high 0;
}

abbrev pub decreases-loop-low : goal.decreases-loop-low
decreases-loop-low l = l.high - l.low
