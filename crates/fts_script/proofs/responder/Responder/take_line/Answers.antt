use Rattle.std.proofs.Common.{[], ◌++◌, ◌∙◌, ap, append_assoc, append-nil, drop, take, take-append-drop, length, subst, sym, arith, string_bytes}
use Rattle.std.proofs.lemmas.List.{take_all}
use Rattle.fts_script.specs.session.Text.{lines_of}
use Rattle.fts_script.specs.Stops.{IsWritten}
use Rattle.fts_script.specs.Responders.{Advances}
use Rattle.fts_script.proofs.BlankLemmas.{IsWritten-front}
use Rattle.fts_script.proofs.KeptLemmas.{not_blank-kept}
use Rattle.fts_script.proofs.LineLemmas.{HasNoEnd-append, HasNoEnd-before, HasNoEnd-none, take-ended}
use Rattle.fts_script.proofs.RunLemmas.{Advances-ended, Advances-unended, on_err}
use Rattle.fts_script.proofs.responder.Responder.take_line.Goals as goal

pub returns-in_ok-end_line-in-Some-clause-ok : goal.returns-in_ok-end_line-in-Some-clause-ok
returns-in_ok-end_line-in-Some-clause-ok g c =
    let bytes = c.args.bytes.now in
    let waited = string_bytes c.args.self.now.replies in
    let waits = string_bytes c.end_line.new.self.replies in
    subst (λ v. Advances c.args.self.now.session.script c.end_line.new.self.session.script c.args.self.now.line c.end_line.new.self.line v waited waits)
    (sym (take-ended bytes c.in-Some.end c.in-Some.ensures))
    (Advances-ended c.args.self.now.session.script c.end_line.new.self.session.script c.args.self.now.line c.end_line.new.self.line (take c.in-Some.end bytes) waited waits
    (HasNoEnd-before bytes c.in-Some.end c.in-Some.ensures)
    c.in_ok-end_line-in-Some.ensures.reply
    c.in_ok-end_line-in-Some.ensures.script
    c.in_ok-end_line-in-Some.ensures.next)

pub returns-in_ok-grow-in-None-clause-ok : goal.returns-in_ok-grow-in-None-clause-ok
returns-in_ok-grow-in-None-clause-ok g c =
    let bytes = c.args.bytes.now in
    let waits = string_bytes c.args.self.now.replies in
    subst (λ v. Advances c.args.self.now.session.script c.args.self.now.session.script c.args.self.now.line c.grow.new.self v waits waits)
    (sym (take_all (length bytes) bytes (omega arith)))
    (Advances-unended c.args.self.now.session.script c.args.self.now.line c.grow.new.self bytes waits
    (HasNoEnd-none bytes c.in-None.ensures)
    c.in_ok-grow-in-None.ensures.ok)

pub returns-in_err-end_line-in-Some-clause-not_blank : goal.returns-in_err-end_line-in-Some-clause-not_blank
returns-in_err-end_line-in-Some-clause-not_blank g c =
    let bytes = c.args.bytes.now in
    let k = c.in-Some.end in
    on_err c.from_residual.result _ (λ start held none.
    subst (λ v. IsWritten (lines_of v)) (append_assoc start (take k bytes) (drop k bytes) ∙ ap (λ v. start ++ v) (take-append-drop k bytes))
    (IsWritten-front (start ++ take k bytes) (drop k bytes) (HasNoEnd-append start (take k bytes) none (HasNoEnd-before bytes k c.in-Some.ensures))
    (not_blank-kept c.args.self.now.line start (take k bytes) held c.in_err-end_line-in-Some.ensures.not_blank)))

pub returns-in_err-grow-in-None-clause-not_blank : goal.returns-in_err-grow-in-None-clause-not_blank
returns-in_err-grow-in-None-clause-not_blank g c =
    let bytes = c.args.bytes.now in
    on_err c.from_residual-in_err-grow-in-None.result _ (λ start held none.
    subst (λ v. IsWritten (lines_of v)) (append-nil (start ++ bytes))
    (IsWritten-front (start ++ bytes) [] (HasNoEnd-append start bytes none (HasNoEnd-none bytes c.in-None.ensures))
    (not_blank-kept c.args.self.now.line start bytes held c.in_err-grow-in-None.ensures.not_blank)))
