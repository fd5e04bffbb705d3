-- A word more is changed.
use Rattle.std.proofs.Common.{◌&&◌, ℕ, Bool, ◌+◌, ◌*◌, get_or, refl, subst, sym, rules}
use Rattle.fts_pack.proofs.ChangeLemmas.{AreChangedTo, AreChangedTo-more}
use Rattle.fts_sets.specs.Leaves.{has_within}
use Rattle.fts_sets.proofs.RowLemmas.{AreChangedTo-skip, word-met}
use Rattle.fts_sets.proofs.rows.keep_within.Goals.{then-row-place-ne0, else-row-place-ne0}
use Rattle.fts_sets.proofs.rows.keep_within.Goals as goal

pub loop-place-preserved : goal.loop-place-preserved
loop-place-preserved c =
    let l = c.loop-place in
    let change : ℕ → Bool → Bool = λ doc told. told && has_within c.args.low c.args.high c.args.column.now doc in
    elim c.if-row-place-ne0.branch [
      | then-row-place-ne0 w ↦
          subst (λ r. AreChangedTo change c.args.index c.args.row.now r (l.place + 1)) (sym w.row-is)
          (AreChangedTo-more change c.args.index c.args.row.now l.row l.place _ l.invariant (search rules)
          (word-met (has_within c.args.low c.args.high c.args.column.now) (64 * (c.args.index + l.place)) (get_or l.row l.place 0) w.marks_within.result w.marks_within.ensures))
      | else-row-place-ne0 w ↦
          subst (λ r. AreChangedTo change c.args.index c.args.row.now r (l.place + 1)) (sym w.row-is)
          (AreChangedTo-skip change c.args.index c.args.row.now l.row l.place l.invariant w.if-row-place-ne0.false (λ d. refl))
    ]
