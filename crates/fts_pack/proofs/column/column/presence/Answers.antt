use Rattle.std.proofs.Common.{◌∙◌, sym}
use Rattle.fts_pack.proofs.ColumnLemmas.{presence_missing, presence_set}
use Rattle.fts_pack.proofs.column.column.presence.Goals as goal
use Rattle.fts_pack.proofs.column.column.presence.Goals.{then-is_some, else-is_some}

pub loop-doc-preserved : goal.loop-doc-preserved
loop-doc-preserved c =
    let values = c.args.values.now in
    let doc = c.loop-doc.doc in
    elim c.if-is_some.branch [
      | then-is_some w ↦ w.present-is ∙ w.set.ensures ∙ presence_set values c.loop-doc.present doc c.loop-doc-test.true c.loop-doc.invariant
          (sym c.is_some.ensures ∙ w.if-is_some.true)
      | else-is_some w ↦ w.present-is ∙ presence_missing values c.loop-doc.present doc c.loop-doc-test.true c.loop-doc.invariant
          (sym c.is_some.ensures ∙ w.if-is_some.false)
    ]
