-- The reply is that of what the line came to.
use Rattle.fts_script.proofs.ResultLemmas.{appended}
use Rattle.fts_script.proofs.session.search.answer_search.Goals as goal

pub returns-clause-reply : goal.returns-clause-reply
returns-clause-reply g c =
    appended _ _ _ _ (c.in_ok-print.ensures.text _ _ _ c.search_whole-found.ensures.does) c.in_ok-reserve.ensures.bytes
