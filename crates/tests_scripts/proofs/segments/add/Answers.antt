use Rattle.std.proofs.Common.{◌≡◌, true, subst}
use Rattle.std.specs.Prelude.{IfOk}
use Rattle.dilforec.specs.Documents.{fits}
use Rattle.dilforec.proofs.FitLemmas.{document_fits, if_given}
use Rattle.tests_scripts.proofs.segments.add.Goals as goal

pub submit-requires-clause-fits : goal.submit-requires-clause-fits
submit-requires-clause-fits g c =
    let fields = c.schema.result.now in
    subst (λ schema. fits schema c.expect-document.result ≡ true) c.schema.ensures
    (subst (λ result. IfOk result (λ document. fits fields document ≡ true)) c.expect-document.ensures
    (if_given (λ document. fits fields document ≡ true) c.from_json.result _ c.from_json.ensures.document (document_fits fields _)))
