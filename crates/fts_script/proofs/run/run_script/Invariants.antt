use Rattle.std.proofs.Common.{◌≡◌, ◌≤◌, ◌^◌, ◌-◌, ◌++◌, length, List, ℕ, [], string_bytes}
use Rattle.fts_script.specs.Streams.{GainsTaken, LosesGiven}
use Rattle.fts_script.specs.Responders.{RunState}
use Rattle.fts_script.proofs.run.run_script.Given as goal

abbrev pub invariant-reads : goal.invariant-reads
invariant-reads g l = record {
  input : List ℕ;
  given : (g.R.ScriptIn.calls l.reader).given ≡ (g.R.ScriptIn.calls l.fn.reader).given ++ input;
  left : LosesGiven (g.R.ScriptIn.calls l.fn.reader).given (g.R.ScriptIn.calls l.reader).given (g.R.ScriptIn.calls l.fn.reader).remaining (g.R.ScriptIn.calls l.reader).remaining;
  held : GainsTaken (g.W.ScriptOut.calls l.fn.writer).taken (g.W.ScriptOut.calls l.writer).taken (g.W.ScriptOut.calls l.fn.writer).held (g.W.ScriptOut.calls l.writer).held;
  reached : RunState (g.W.ScriptOut.calls l.fn.writer).taken (g.W.ScriptOut.calls l.writer).taken l.responder.session.script l.responder.line input;
  none_wait : string_bytes l.responder.replies ≡ [];
  ends : (g.R.ScriptIn.calls l.reader).ends ≡ (g.R.ScriptIn.calls l.fn.reader).ends;
  failed : (g.R.ScriptIn.calls l.reader).failed ≡ (g.R.ScriptIn.calls l.fn.reader).failed;
  counted : l.count ≡ length input;
  most : l.count ≤ 2 ^ 61;
  number : l.responder.session.script.number ≤ l.count;
  write_failed : (g.W.ScriptOut.calls l.writer).failed ≡ (g.W.ScriptOut.calls l.fn.writer).failed;
  flushes : (g.W.ScriptOut.calls l.writer).flushes ≡ (g.W.ScriptOut.calls l.fn.writer).flushes;
}

abbrev pub decreases-reads : goal.decreases-reads
decreases-reads g l = 2 ^ 61 - l.count
