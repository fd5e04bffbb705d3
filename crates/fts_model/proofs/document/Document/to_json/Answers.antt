use Rattle.std.proofs.Common.{◌≡◌, ◌∙◌, ap, subst, arith}
use Rattle.serde_json.specs.View.{view}
use Rattle.serde_json.specs.declared.value.Value.{the_lemmas}
use Rattle.serde_json.specs.declared.value.Value.TheVariants.{Object}
use Rattle.fts_model.specs.Documents.{document_of, json_of, IsDocument}
use Rattle.fts_model.proofs.DocumentsReadBack.{reads_back}
use Rattle.fts_model.proofs.document.Document.to_json.Goals as goal

pub returns-clause-reads_back : goal.returns-clause-reads_back
returns-clause-reads_back c =
    let json : view (Object c.in_ok-members_of.field-0) ≡ json_of c.args.self.now = grind (arith, the_lemmas) in
    ap (document_of c.args.self.now.schema) json ∙ reads_back c.args.self.now (subst IsDocument c.self.view_is c.self.invariant)
