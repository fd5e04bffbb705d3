-- A word more is changed.
use Rattle.std.proofs.Common.{◌+◌, ◌*◌, get_or, arith, rules}
use Rattle.fts_pack.proofs.ChangeLemmas.{AreChangedTo-more}
use Rattle.fts_sets.specs.Leaves.{leaf_has}
use Rattle.fts_sets.proofs.RowLemmas.{word-joined}
use Rattle.fts_sets.proofs.rows.add_words.Goals as goal

pub loop-place-preserved : goal.loop-place-preserved
loop-place-preserved c =
    let l = c.loop-place in
    AreChangedTo-more _ c.args.index c.args.row.now l.row l.place _ l.invariant (search rules)
    (word-joined (leaf_has c.args.leaf) (64 * (c.args.index + l.place)) (get_or l.row l.place 0) c.word.result c.word.ensures)

pub returns : goal.returns
returns c k j low inside = c.loop-place.invariant.done k j (omega (arith, low, c.loop-place-test.false)) inside
