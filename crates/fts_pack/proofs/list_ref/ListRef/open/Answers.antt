use Rattle.std.proofs.Common.{ap, subst, ◌∙◌, length, arith}
use Rattle.fts_pack.specs.ListRef.{listed}
use Rattle.fts_pack.specs.StoredList.{IsStoredAsSaid, documents_stored}
use Rattle.fts_pack.proofs.DocumentsLemmas.{one_block}
use Rattle.fts_pack.proofs.list_ref.ListRef.open.Goals as goal

pub returns-in-Plain-clause-count : goal.returns-in-Plain-clause-count
returns-in-Plain-clause-count c =
    let few = subst IsStoredAsSaid c.in-Plain.is c.args.self.form in
    c.copy_plain.ensures.count
    ∙ ap length (one_block (listed c.args.self) c.in-Plain.documents.now c.args.block (ap documents_stored c.in-Plain.is) (omega (arith, few)) c.requires)

pub returns-in-Plain-clause-documents : goal.returns-in-Plain-clause-documents
returns-in-Plain-clause-documents c =
    let few = subst IsStoredAsSaid c.in-Plain.is c.args.self.form in
    c.copy_plain.ensures.documents
    ∙ one_block (listed c.args.self) c.in-Plain.documents.now c.args.block (ap documents_stored c.in-Plain.is) (omega (arith, few)) c.requires
