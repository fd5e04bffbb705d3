-- One test more.
use Rattle.std.proofs.Common.{◌==◌, ◌||◌, ◌∙◌, ◌+◌, ◌*◌, ap, sym, take, arith}
use Rattle.std.specs.Int.{bit_at}
use Rattle.std.proofs.lemmas.List.{get_or-replicate, take_all}
use Rattle.std.proofs.lemmas.List.Folds.{list_any_more}
use Rattle.std.proofs.lemmas.Nat.Bits.{bit_at-zero}
use Rattle.fts_sets.specs.declared.leaf.Leaf.{Leaf}
use Rattle.fts_sets.specs.Leaves.{leaf_has, one_has}
use Rattle.fts_sets.proofs.rows.some.Goals as goal

pub loop-leaf-init : goal.loop-leaf-init
loop-leaf-init c k low j inside =
    ap (λ w. bit_at w j == 1) (get_or-replicate 16 k 0 0 (omega (arith, low, c.requires.few))) ∙ ap (λ n. n == 1) (bit_at-zero j)

pub loop-leaf-preserved : goal.loop-leaf-preserved
loop-leaf-preserved c k low j inside =
    let list = c.args.leaves.now in
    let l = c.loop-leaf in
    let leaf = c.leaf-item.result in
    let d = 64 * (c.args.index + k) + j in
    c.add.ensures k j low inside ∙ ap (λ b. b || leaf_has leaf d) (l.invariant k low j inside)
    ∙ ap (λ (x : Leaf). one_has (take l.leaf-index list) d || leaf_has x d) c.leaf-item.is
    ∙ sym (list_any_more (λ (x : Leaf). leaf_has x d) list l.leaf-index leaf c.loop-leaf-test.true)

pub returns : goal.returns
returns c k low j inside =
    let l = c.loop-leaf in
    l.invariant k low j inside ∙ ap (λ xs. one_has xs (64 * (c.args.index + k) + j)) (take_all l.leaf-index c.args.leaves.now c.loop-leaf-test.false)
