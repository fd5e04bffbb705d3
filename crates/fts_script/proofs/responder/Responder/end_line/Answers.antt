use Rattle.std.proofs.Common.{◌++◌, ◌∙◌, ap, sym, string_bytes}
use Rattle.std.proofs.lemmas.Result.{on_err_weaker, on_ok_weaker}
use Rattle.fts_script.specs.session.KeptLines.{after_kept, is_blank_kept, reply_to_kept}
use Rattle.fts_script.proofs.KeptLemmas.{after_kept-whole, not_blank-whole, reply_to_kept-whole}
use Rattle.fts_script.proofs.responder.Responder.end_line.Goals as goal

pub returns-then-is_empty-clause-reply : goal.returns-then-is_empty-clause-reply
returns-then-is_empty-clause-reply g c =
    on_ok_weaker c.answer.result
    (λ h. h ∙ ap (λ v. string_bytes c.args.self.now.replies ++ v)
    (sym (reply_to_kept-whole c.args.self.now.session.script c.args.self.now.line c.args.piece.now (c.is_empty.ensures.0 c.if-is_empty.true))))
    c.answer.ensures.reply.ok

pub returns-then-is_empty-clause-script : goal.returns-then-is_empty-clause-script
returns-then-is_empty-clause-script g c =
    on_ok_weaker c.answer.result
    (λ h. h ∙ sym (after_kept-whole c.args.self.now.session.script c.args.self.now.line c.args.piece.now (c.is_empty.ensures.0 c.if-is_empty.true)))
    c.answer.ensures.script

pub returns-then-is_empty-clause-not_blank : goal.returns-then-is_empty-clause-not_blank
returns-then-is_empty-clause-not_blank g c =
    on_err_weaker c.answer.result
    (λ h. not_blank-whole c.args.self.now.line c.args.piece.now (c.is_empty.ensures.0 c.if-is_empty.true) h)
    c.answer.ensures.not_blank

pub returns-clause-reply : goal.returns-clause-reply
returns-clause-reply g c =
    on_ok_weaker c.answer-2.result
    (λ h. h ∙ ap (λ v. string_bytes c.args.self.now.replies ++ reply_to_kept c.args.self.now.session.script v) c.in_ok-grow.ensures.ok)
    c.answer-2.ensures.reply

pub returns-clause-script : goal.returns-clause-script
returns-clause-script g c =
    on_ok_weaker c.answer-2.result (λ h. h ∙ ap (after_kept c.args.self.now.session.script) c.in_ok-grow.ensures.ok) c.answer-2.ensures.script

pub returns-clause-not_blank : goal.returns-clause-not_blank
returns-clause-not_blank g c =
    on_err_weaker c.answer-2.result (λ h. sym (ap is_blank_kept c.in_ok-grow.ensures.ok) ∙ h) c.answer-2.ensures.not_blank
