-- The reply and the index are those of what the line came to.
use Rattle.fts_script.proofs.ResultLemmas.{appended, on_err}
use Rattle.fts_script.proofs.session.commands.answer_whole.Goals as goal

pub returns-clause-reply : goal.returns-clause-reply
returns-clause-reply g c =
    appended _ _ _ _ (c.in_ok-print.ensures.text _ _ _ c.execute_whole-done.ensures.does) c.in_ok-reserve.ensures.bytes

pub returns-clause-index : goal.returns-clause-index
returns-clause-index g c = c.in_ok-print.ensures.index _ _ _ c.execute_whole-done.ensures.does

pub returns-in_err-print-clause-kept : goal.returns-in_err-print-clause-kept
returns-in_err-print-clause-kept g c = on_err c.from_residual-in_err-print.result _ (c.in_err-print.ensures.kept _ _ _ c.execute_whole-done.ensures.does)
