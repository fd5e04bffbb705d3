use Rattle.fts_script.proofs.RunLemmas.{Wrote-output, Wrote-part, Wrote-start, Wrote-stop, on_err}
use Rattle.fts_script.proofs.responder.Responder.end.Goals as goal

pub returns-in_err-ended-clause-err : goal.returns-in_err-ended-clause-err
returns-in_err-ended-clause-err g c = on_err c.from_residual.result _ (λ before input r. Wrote-start before _ _ _ input r)

pub returns-in_err-send_last-clause-err : goal.returns-in_err-send_last-clause-err
returns-in_err-send_last-clause-err g c = on_err c.from_residual-in_err-send_last.result _ (λ before input r.
    Wrote-part before (g.W.ScriptOut.calls c.args.writer.now).taken (g.W.ScriptOut.calls c.send_last.new.writer).taken
    c.args.self.session.script c.args.self.line input _ c.in_err-send_last.ensures.err.0
    c.in_ok-ended.ensures.ok c.in_err-send_last.ensures.err.1 r)

pub returns-in_err-ended-clause-memory : goal.returns-in_err-ended-clause-memory
returns-in_err-ended-clause-memory g c = λ _ before input r. Wrote-stop before _ _ _ input c.in_err-ended.ensures.not_blank r

pub returns-clause-ok : goal.returns-clause-ok
returns-clause-ok g c = λ before input r.
    Wrote-output before (g.W.ScriptOut.calls c.args.writer.now).taken (g.W.ScriptOut.calls c.send_last.new.writer).taken
    c.args.self.session.script c.args.self.line input _ c.in_ok-ended.ensures.ok
    c.in_ok-send_last.ensures.ok
    r
