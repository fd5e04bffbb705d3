-- The reply and the index are those of what the line came to.
use Rattle.std.proofs.Common.{◌∙◌, cond, ap}
use Rattle.fts_script.proofs.ResultLemmas.{appended, on_err}
use Rattle.fts_script.proofs.session.replace.answer_replace.Goals as goal

pub returns-clause-reply : goal.returns-clause-reply
returns-clause-reply g c =
    appended _ _ _ _ (c.in_ok-done.ensures.text _ _ _ c.replace_whole-replaced.ensures.does) c.in_ok-reserve.ensures.bytes

pub returns-clause-index : goal.returns-clause-index
returns-clause-index g c = c.in_ok-done.ensures.index _ _ _ c.replace_whole-replaced.ensures.does

pub returns-in_err-done-clause-kept : goal.returns-in_err-done-clause-kept
returns-in_err-done-clause-kept g c = on_err c.from_residual-in_err-done.result _ (c.in_err-done.ensures.kept _ _ _ c.replace_whole-replaced.ensures.does)

pub returns-clause-done : goal.returns-clause-done
returns-clause-done g c = c.lines_of.ensures ∙ ap (λ b. cond b 2 0) (c.in_ok-done.ensures.done _ _ _ c.replace_whole-replaced.ensures.does)
