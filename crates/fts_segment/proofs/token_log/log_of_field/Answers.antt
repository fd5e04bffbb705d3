use Rattle.std.proofs.Common.{◌++◌, take, ap, sym, subst, ◌∙◌, arith}
use Rattle.std.specs.Prelude.{option_copied}
use Rattle.std.proofs.lemmas.List.Elements.{All-push}
use Rattle.fts_model.specs.Documents.{value_in_field}
use Rattle.fts_segment.specs.Occurrences.{occurrences, occurrences_at, values_in, HasFewTokens}
use Rattle.fts_segment.proofs.OccurrencesLemmas.{occurrences-push}
use Rattle.fts_segment.proofs.FieldLemmas.{values-more, length-values}
use Rattle.fts_segment.proofs.token_log.log_of_field.Goals as goal

pub loop-doc-preserved : goal.loop-doc-preserved
loop-doc-preserved c =
    let kind = c.args.kind in
    let i = c.loop-doc.doc in
    let ds = c.args.documents.now in
    let d = c.index-documents-doc.result in
    let vs = values_in c.args.field (take i ds) in
    let v = value_in_field d.value c.args.field in
    rw (values-more c.args.field ds i d c.loop-doc-test.true c.index-documents-doc.is) (
      c.in_ok-push_value.ensures.logged ∙ ap (λ os. os ++ occurrences_at kind i (option_copied c.value-value.result)) c.loop-doc.invariant.0
          ∙ ap (λ v. occurrences kind 0 vs ++ occurrences_at kind i v) c.value-value.ensures.value
          ∙ sym (occurrences-push kind 0 i vs v (omega (arith, length-values c.args.field ds i (omega arith)))),
      All-push (HasFewTokens kind) vs v c.loop-doc.invariant.1 (subst (HasFewTokens kind) c.value-value.ensures.value c.in_ok-push_value.ensures.few),
    )
