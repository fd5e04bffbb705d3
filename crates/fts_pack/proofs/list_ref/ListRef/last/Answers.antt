use Rattle.std.proofs.Common.{ap, subst, arith}
use Rattle.fts_pack.specs.Documents.{last_of}
use Rattle.fts_pack.specs.ListRef.{listed}
use Rattle.fts_pack.specs.StoredList.{IsStoredAsSaid, documents_stored}
use Rattle.fts_pack.proofs.DocumentsLemmas.{one_block}
use Rattle.fts_pack.proofs.list_ref.ListRef.last.Goals as goal

pub returns-in-Plain : goal.returns-in-Plain
returns-in-Plain c =
    let few = subst IsStoredAsSaid c.in-Plain.is c.args.self.form in
    ap last_of (one_block (listed c.args.self) c.in-Plain.documents.now c.args.block (ap documents_stored c.in-Plain.is) (omega (arith, few)) c.requires)
