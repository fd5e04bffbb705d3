use Rattle.std.proofs.Common.{length, ◌-◌, ◌+◌, ◌≤◌, ◌≡◌, ◌++◌, take, [], List, ℕ, string_bytes}
use Rattle.fts_script.specs.Streams.{GainsTaken}
use Rattle.fts_script.specs.Responders.{RunState}
use Rattle.fts_script.proofs.responder.Responder.feed.Given as goal

abbrev pub invariant-loop-at : goal.invariant-loop-at
invariant-loop-at g l = record {
  within : l.at ≤ length l.piece;
  none_wait : string_bytes l.self.replies ≡ [];
  reached : (before input : List ℕ) →
      RunState before (g.W.ScriptOut.calls l.fn.writer).taken l.fn.self.session.script l.fn.self.line input →
      RunState before (g.W.ScriptOut.calls l.writer).taken l.self.session.script l.self.line (input ++ take l.at l.piece);
  counted : l.self.session.script.number ≤ l.fn.self.session.script.number + l.at;
  held : GainsTaken (g.W.ScriptOut.calls l.fn.writer).taken (g.W.ScriptOut.calls l.writer).taken (g.W.ScriptOut.calls l.fn.writer).held (g.W.ScriptOut.calls l.writer).held;
  failed : (g.W.ScriptOut.calls l.writer).failed ≡ (g.W.ScriptOut.calls l.fn.writer).failed;
  flushes : (g.W.ScriptOut.calls l.writer).flushes ≡ (g.W.ScriptOut.calls l.fn.writer).flushes;
}

abbrev pub decreases-loop-at : goal.decreases-loop-at
decreases-loop-at g l = length l.piece - l.at
