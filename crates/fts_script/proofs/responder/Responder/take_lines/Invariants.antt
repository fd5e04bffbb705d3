use Rattle.std.proofs.Common.{length, ◌-◌, ◌+◌, ◌≤◌, ◌≡◌, take, [], string_bytes}
use Rattle.fts_script.specs.Responders.{Advances}
use Rattle.fts_script.proofs.responder.Responder.take_lines.Given as goal

abbrev pub invariant-loop-at : goal.invariant-loop-at
invariant-loop-at g l = record {
  within : l.at ≤ length l.bytes;
  started : l.at ≡ 0 → string_bytes l.self.replies ≡ [];
  leads : Advances l.fn.self.session.script l.self.session.script l.fn.self.line l.self.line (take l.at l.bytes) [] (string_bytes l.self.replies);
  counted : l.self.session.script.number ≤ l.fn.self.session.script.number + l.at;
}

abbrev pub decreases-loop-at : goal.decreases-loop-at
decreases-loop-at g l = length l.bytes - l.at
