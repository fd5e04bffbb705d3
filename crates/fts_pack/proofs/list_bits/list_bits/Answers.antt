-- The bits are those of the documents, whose last is the greatest.
use Rattle.std.proofs.Common.{◌-◌, length, arith}
use Rattle.std.proofs.lemmas.List.{get_or_default}
use Rattle.std.proofs.Math.Facts.{Fits-lt-pow}
use Rattle.fts_pack.proofs.DocumentsLemmas.{Rises-from_increasing, within_last}
use Rattle.fts_pack.proofs.list_bits.list_bits.Goals as goal

pub of_documents-requires : goal.of_documents-requires
of_documents-requires c k d inside =
    let documents = c.args.documents.now in
    omega (arith, get_or_default documents k d 0 inside, within_last 0 documents (Rises-from_increasing documents c.requires) k inside)

pub returns : goal.returns
returns c =
    let documents = c.args.documents.now in
    record {
      tells = c.in_ok-bits.ensures.set;
      few = omega (arith, c.in_ok-bits.ensures.len, Fits-lt-pow (c.type_inv.documents (length documents - 1)));
    }
