-- A word more is changed.
use Rattle.std.proofs.Common.{◌&&◌, ℕ, Bool, ◌+◌, ◌*◌, get_or, not, refl, subst, sym, arith, rules}
use Rattle.fts_pack.proofs.ChangeLemmas.{AreChangedTo, AreChangedTo-more}
use Rattle.fts_sets.specs.Leaves.{leaf_has}
use Rattle.fts_sets.proofs.RowLemmas.{AreChangedTo-skip, word-left}
use Rattle.fts_sets.proofs.rows.drop_words.Goals.{then-row-place-ne0, else-row-place-ne0}
use Rattle.fts_sets.proofs.rows.drop_words.Goals as goal

pub loop-place-preserved : goal.loop-place-preserved
loop-place-preserved c =
    let l = c.loop-place in
    let change : ℕ → Bool → Bool = λ doc told. told && not (leaf_has c.args.leaf doc) in
    elim c.if-row-place-ne0.branch [
      | then-row-place-ne0 w ↦
          subst (λ r. AreChangedTo change c.args.index c.args.row.now r (l.place + 1)) (sym w.row-is)
          (AreChangedTo-more change c.args.index c.args.row.now l.row l.place _ l.invariant (search rules)
          (word-left (leaf_has c.args.leaf) (64 * (c.args.index + l.place)) (get_or l.row l.place 0) w.word.result (omega arith) w.word.ensures))
      | else-row-place-ne0 w ↦
          subst (λ r. AreChangedTo change c.args.index c.args.row.now r (l.place + 1)) (sym w.row-is)
          (AreChangedTo-skip change c.args.index c.args.row.now l.row l.place l.invariant w.if-row-place-ne0.false (λ d. refl))
    ]
