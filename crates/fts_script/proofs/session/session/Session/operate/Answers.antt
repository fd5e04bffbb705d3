-- A line that is taken is done as any other.
use Rattle.std.proofs.Common.{◌≡◌, true, ap, arith}
use Rattle.fts_script.specs.session.Sessions.{SessionState}
use Rattle.fts_script.proofs.TransactionLemmas.{taken_reply, taken_state}
use Rattle.fts_script.proofs.session.session.Session.operate.Goals as goal

pub returns-clause-reply : goal.returns-clause-reply
returns-clause-reply g c =
    let ok : c.in_ok-taken.taken ≡ true = grind (arith, c.if-not-taken.false) in
    taken_reply _ _ _ _ _ _ _ (ap (λ (v : SessionState _). v.script) c.self.view_is) ok c.in_ok-taken.ensures.taken c.in_ok-taken.ensures.reply

pub returns-clause-script : goal.returns-clause-script
returns-clause-script g c =
    let ok : c.in_ok-taken.taken ≡ true = grind (arith, c.if-not-taken.false) in
    taken_state _ _ _ _ _ (ap (λ (v : SessionState _). v.script) c.self.view_is) ok c.in_ok-taken.ensures.taken c.in_ok-taken.ensures.index
