use Rattle.std.proofs.Common.{◌++◌, ◌∙◌, ap}
use Rattle.std.proofs.lemmas.Bool.{false≢true}
use Rattle.std.proofs.lemmas.Result.{on_ok_weaker}
use Rattle.fts_script.specs.session.KeptLines.{reply_to_kept}
use Rattle.fts_script.proofs.RunLemmas.{Finishes-line}
use Rattle.fts_script.proofs.responder.Responder.end_input.Goals as goal

pub returns : goal.returns
returns g c = record {
  ok = on_ok_weaker c.answer.result
      (λ h. Finishes-line c.args.self.now.session.script c.args.self.now.line _ (λ none. absurd (false≢true (c.if-is_empty.ensures.1 none)))
      (h ∙ ap (λ v. v ++ reply_to_kept c.args.self.now.session.script c.args.self.now.line) c.requires.none_wait))
      c.answer.ensures.reply;
  not_blank = c.answer.ensures.not_blank;
}
