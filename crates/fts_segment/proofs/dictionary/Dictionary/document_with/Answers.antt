-- The document that is picked from the list of an ordinal has its text.
use Rattle.std.proofs.Common.{length, ap, arith}
use Rattle.std.proofs.lemmas.Option.{slice_get_past}
use Rattle.fts_model.specs.declared.schema.Kind.TheVariants as kinds
use Rattle.fts_segment.specs.Keywords.{texts_of}
use Rattle.fts_segment.proofs.KeywordIndexLemmas.{terms_are_texts}
use Rattle.fts_segment.proofs.OrdinalLemmas.{keyword_there, lists_count}
use Rattle.fts_segment.proofs.dictionary.Dictionary.document_with.Goals as goal

pub returns-then-ordinal-len : goal.returns-then-ordinal-len
returns-then-ordinal-len c vs are =
    let self = c.args.self.now in
    slice_get_past (texts_of kinds.Keyword vs) c.args.ordinal
    (omega (arith, c.if-ordinal-len.true, c.len.ensures, lists_count vs self are, ap length (terms_are_texts vs self are)))

pub returns : goal.returns
returns c = λ vs are.
    keyword_there vs c.args.self.now c.args.ordinal _ c.some_document.result are (omega (arith, c.if-ordinal-len.false, c.len.ensures)) c.get.ensures
    c.some_document.ensures
