use Rattle.std.proofs.Common.{ap, ◌∙◌, ◌++◌}
use Rattle.fts_script.proofs.RunLemmas.{sent_more, within_more, not_counted}
use Rattle.fts_script.proofs.StreamLemmas.{append_more, GainsTaken-write}
use Rattle.fts_script.proofs.responder.send.Goals as goal

pub loop-at-preserved : goal.loop-at-preserved
loop-at-preserved g c =
    let first = (g.W.ScriptOut.calls c.args.writer.now).taken in
    let bytes = c.as_bytes-bytes.result.now in
    record {
      within = within_more bytes c.loop-at.at c.in-Ok.n c.loop-at.invariant.within c.in-Ok.ensures.bound;
      sent = append_more first _ _ _ _ c.loop-at.invariant.sent c.in-Ok.ensures.taken ∙ ap (λ v. first ++ v) (sent_more bytes c.loop-at.at c.in-Ok.n);
      held = GainsTaken-write c.write.result _ _ _ _ _ _ (g.W.ScriptOut.calls c.write.new.self).held c.loop-at.invariant.held c.write.ensures.taken
          c.write.ensures.held;
      failed = not_counted c.in-Ok.n _ _ _ c.in-Ok.n-test.1 c.in-Ok.ensures.fails ∙ c.loop-at.invariant.failed;
      flushes = c.in-Ok.ensures.flushes ∙ c.loop-at.invariant.flushes;
    }
