use Rattle.std.proofs.Common.{◌++◌, length, take, subst, arith, ◌∙◌, string_bytes}
use Rattle.fts_script.specs.Streams.{Wrote}
use Rattle.fts_script.specs.Stops.{BeginsOutput}
use Rattle.fts_script.specs.Responders.{RunState}
use Rattle.fts_script.proofs.RunLemmas.{AdvancesFirst-either, RunState-sent, Wrote-begins, Wrote-block, Wrote-cut, Wrote-first, Wrote-stopped, part_is}
use Rattle.fts_script.proofs.RunLemmas.{whole_is, within_more}
use Rattle.fts_script.proofs.StreamLemmas.{GainsTaken-trans}
use Rattle.fts_script.proofs.responder.Responder.feed.Goals as goal

pub returns-in-Err-clause-err : goal.returns-in-Err-clause-err
returns-in-Err-clause-err g c = (λ before input r.
    subst (λ v. Wrote before (g.W.ScriptOut.calls c.send.new.writer).taken (BeginsOutput v)) (whole_is input c.args.piece.now c.loop-at.at)
    (Wrote-cut before (g.W.ScriptOut.calls c.loop-at.writer).taken (g.W.ScriptOut.calls c.send.new.writer).taken
    c.loop-at.self.session.script c.loop-at.self.line (input ++ take c.loop-at.at c.args.piece.now) _
    (string_bytes c.take_lines-taken.new.self.replies) c.in-Err.ensures.err.0
    (AdvancesFirst-either c.take_lines-taken.result c.loop-at.self.session.script c.take_lines-taken.new.self.session.script c.loop-at.self.line
    c.take_lines-taken.new.self.line _ _ _
    c.take_lines-taken.ensures.ok c.take_lines-taken.ensures.err)
    c.in-Err.ensures.err.1
    (c.loop-at.invariant.reached before input r)))

pub returns-in-Err-taken-clause-memory : goal.returns-in-Err-taken-clause-memory
returns-in-Err-taken-clause-memory g c = λ _ before input r.
    Wrote-block before (g.W.ScriptOut.calls c.send.new.writer).taken input c.args.piece.now c.take_lines-taken.new.self.session.script c.loop-at.at
    (Wrote-first before (g.W.ScriptOut.calls c.loop-at.writer).taken (g.W.ScriptOut.calls c.send.new.writer).taken
    c.loop-at.self.session.script c.take_lines-taken.new.self.session.script c.loop-at.self.line (input ++ take c.loop-at.at c.args.piece.now) _ _
    c.in-Err-taken.ensures.err c.in-Ok.ensures.ok
    (c.loop-at.invariant.reached before input r))

pub returns-in-Err-taken-clause-err : goal.returns-in-Err-taken-clause-err
returns-in-Err-taken-clause-err g c = (λ before input r.
    Wrote-begins before (g.W.ScriptOut.calls c.send.new.writer).taken (input ++ c.args.piece.now) (length c.args.piece.now)
    (Wrote-stopped before (g.W.ScriptOut.calls c.send.new.writer).taken (input ++ c.args.piece.now) c.take_lines-taken.new.self.session.script
    (length c.args.piece.now)
    (Wrote-block before (g.W.ScriptOut.calls c.send.new.writer).taken input c.args.piece.now c.take_lines-taken.new.self.session.script c.loop-at.at
    (Wrote-first before (g.W.ScriptOut.calls c.loop-at.writer).taken (g.W.ScriptOut.calls c.send.new.writer).taken
    c.loop-at.self.session.script c.take_lines-taken.new.self.session.script c.loop-at.self.line (input ++ take c.loop-at.at c.args.piece.now) _ _
    c.in-Err-taken.ensures.err c.in-Ok.ensures.ok
    (c.loop-at.invariant.reached before input r)))))

pub loop-at-preserved : goal.loop-at-preserved
loop-at-preserved g c =
    let block = c.args.piece.now in
    let at = c.loop-at.at in
    let n = c.in-Ok-taken.n in record {
      within = within_more block at n c.loop-at.invariant.within c.in-Ok-taken.ensures.bound;
      none_wait = c.in-Ok.ensures.none_wait;
      reached = λ before input r.
          subst (λ v. RunState before (g.W.ScriptOut.calls c.send.new.writer).taken c.take_lines-taken.new.self.session.script c.take_lines-taken.new.self.line v)
          (part_is input block at n)
          (RunState-sent before (g.W.ScriptOut.calls c.loop-at.writer).taken (g.W.ScriptOut.calls c.send.new.writer).taken
          c.loop-at.self.session.script c.take_lines-taken.new.self.session.script c.loop-at.self.line c.take_lines-taken.new.self.line
          (input ++ take at block) _ _
          c.in-Ok-taken.ensures.ok c.in-Ok.ensures.ok
          (c.loop-at.invariant.reached before input r));
      counted = omega (arith, c.loop-at.invariant.counted, c.in-Ok-taken.ensures.lines_counted);
      held = GainsTaken-trans _ _ _ _ _ (g.W.ScriptOut.calls c.send.new.writer).held c.loop-at.invariant.held c.send.ensures.held;
      failed = c.in-Ok.ensures.none_fails ∙ c.loop-at.invariant.failed;
      flushes = c.send.ensures.flushes ∙ c.loop-at.invariant.flushes;
    }
