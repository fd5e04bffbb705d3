use Rattle.std.proofs.Common.{◌≡◌, ◌-◌, ◌++◌}
use Rattle.std.specs.Prelude.{slice_range}
use Rattle.fts_positions.proofs.block_reader.BlockReader.copy.Given as goal

abbrev pub invariant-loop-at : goal.invariant-loop-at
invariant-loop-at l = record {
  same : l.self.numbers.now ≡ l.fn.self.numbers.now;
  copied : l.out.items ++ slice_range l.fn.self.numbers.now l.at l.end ≡ l.fn.out.items ++ slice_range l.fn.self.numbers.now l.start l.end;
}

abbrev pub decreases-loop-at : goal.decreases-loop-at
decreases-loop-at l = l.end - l.at
