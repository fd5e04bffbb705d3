use Rattle.std.proofs.Common.{◌≡◌, ◌*◌, ◌<◌, ℕ, length, get_or, sum, take}
use Rattle.fts_positions.proofs.position_lists.starts_of.Given as goal

abbrev pub invariant-loop-block : goal.invariant-loop-block
invariant-loop-block l = record {
  many : length l.starts.items ≡ l.block;
  next : l.start ≡ sum (take (l.block * 128) l.counts);
  are : (block : ℕ) → block < l.block → get_or l.starts.items block 0 ≡ sum (take (block * 128) l.counts);
}
