use Rattle.std.proofs.Common.{[], ◌++◌, take, drop, subst, sym, arith, string_bytes, take-append-drop}
use Rattle.std.proofs.lemmas.List.{take_rest}
use Rattle.fts_script.specs.session.Outputs.{SessionValue}
use Rattle.fts_script.specs.session.Text.{lines_of}
use Rattle.fts_script.specs.Stops.{IsWritten}
use Rattle.fts_script.specs.Responders.{Advances, AdvancesToStop}
use Rattle.fts_script.proofs.RunLemmas.{Advances-then, AdvancesToStop-leads, on_err, sent_more, within_more}
use Rattle.fts_script.proofs.responder.Responder.take_lines.Goals as goal

pub returns-in_err-at-clause-err : goal.returns-in_err-at-clause-err
returns-in_err-at-clause-err g c =
    let bytes = c.args.bytes.now in
    let at = c.loop-at.at in
    on_err c.from_residual.result _
    (subst (λ (t : SessionValue). AdvancesToStop c.args.self.now.session.script t c.args.self.now.line bytes [] (string_bytes c.take_line.new.self.replies))
    (sym c.in_err-at.ensures.kept)
    (subst (λ v. AdvancesToStop c.args.self.now.session.script c.loop-at.self.session.script c.args.self.now.line bytes [] v) (sym c.in_err-at.ensures.err)
    (subst (λ v. AdvancesToStop c.args.self.now.session.script c.loop-at.self.session.script c.args.self.now.line v [] (string_bytes c.loop-at.self.replies))
    (take-append-drop at bytes)
    (AdvancesToStop-leads c.args.self.now.session.script c.loop-at.self.session.script c.args.self.now.line c.loop-at.self.line (take at bytes) (drop at bytes) [] _
    c.loop-at.invariant.leads
    (λ line held none. subst (λ v. IsWritten (lines_of (line ++ v))) (take_rest bytes at) (c.in_err-at.ensures.not_blank line held none))))))

pub loop-at-preserved : goal.loop-at-preserved
loop-at-preserved g c =
    let bytes = c.args.bytes.now in
    let at = c.loop-at.at in
    let n = c.in_ok-at.field-0 in record {
      within = within_more bytes at n c.loop-at.invariant.within c.in_ok-at.ensures.bound;
      started = λ e. absurd (omega (arith, c.in_ok-at.ensures.some));
      leads = subst
          (λ v. Advances c.args.self.now.session.script c.take_line.new.self.session.script c.args.self.now.line c.take_line.new.self.line v []
          (string_bytes c.take_line.new.self.replies))
          (sent_more bytes at n)
          (Advances-then c.args.self.now.session.script c.loop-at.self.session.script c.take_line.new.self.session.script c.args.self.now.line c.loop-at.self.line
          c.take_line.new.self.line _ _ _ _ _
          c.loop-at.invariant.leads c.in_ok-at.ensures.ok);
      counted = omega (arith, c.loop-at.invariant.counted, c.take_line.ensures.lines_counted, c.in_ok-at.ensures.some);
    }
