use Rattle.std.proofs.Common.{length, ◌-◌, ◌≤◌, ◌≡◌, ◌++◌, take}
use Rattle.fts_script.specs.Streams.{GainsTaken}
use Rattle.fts_script.proofs.responder.send.Given as goal

abbrev pub invariant-loop-at : goal.invariant-loop-at
invariant-loop-at g l = record {
  within : l.at ≤ length l.bytes;
  sent : (g.W.ScriptOut.calls l.writer).taken ≡ (g.W.ScriptOut.calls l.fn.writer).taken ++ take l.at l.bytes;
  held : GainsTaken (g.W.ScriptOut.calls l.fn.writer).taken (g.W.ScriptOut.calls l.writer).taken (g.W.ScriptOut.calls l.fn.writer).held (g.W.ScriptOut.calls l.writer).held;
  failed : (g.W.ScriptOut.calls l.writer).failed ≡ (g.W.ScriptOut.calls l.fn.writer).failed;
  flushes : (g.W.ScriptOut.calls l.writer).flushes ≡ (g.W.ScriptOut.calls l.fn.writer).flushes;
}

abbrev pub decreases-loop-at : goal.decreases-loop-at
decreases-loop-at g l = length l.bytes - l.at
