-- A word more is changed.
use Rattle.std.proofs.Common.{◌≡◌, ◌==◌, ◌&&◌, ◌+◌, ◌*◌, ◌∙◌, ap, get_or, length, not, sym, arith, rules}
use Rattle.std.specs.Int.{bit_at}
use Rattle.fts_pack.proofs.ChangeLemmas.{AreChangedTo-more}
use Rattle.fts_sets.specs.Leaves.{one_has}
use Rattle.fts_sets.proofs.RowLemmas.{word-but}
use Rattle.fts_sets.proofs.rows.keep_some.Goals as goal

pub loop-place-preserved : goal.loop-place-preserved
loop-place-preserved c =
    let l = c.loop-place in
    let others = c.drop_each.new.row in
    let old = c.args.row.now in
    let leaves = c.args.leaves.now in
    let long : length old ≡ 16 = search rules in
    AreChangedTo-more _ c.args.index old l.row l.place _ l.invariant (search rules)
    (λ j low.
    let d = 64 * (c.args.index + l.place) + j in
    let stays : get_or old l.place 0 ≡ get_or l.row l.place 0 = sym (l.invariant.left l.place (omega arith)) in
    word-but (get_or l.row l.place 0) (get_or others l.place 0) j (one_has leaves d) (search rules) low
    (c.drop_each.ensures.told l.place j (omega (arith, long)) low ∙ ap (λ w. (bit_at w j == 1) && not (one_has leaves d)) stays))
