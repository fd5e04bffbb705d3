-- One clause more.
use Rattle.std.proofs.Common.{◌&&◌, ◌+◌, List, subst, take}
use Rattle.std.specs.Global.{Vec}
use Rattle.std.proofs.Math.Bool.{and-true}
use Rattle.fts_pack.specs.bits.Changes.{AreChanged}
use Rattle.fts_pack.proofs.ChangeLemmas.{AreChanged-none, AreChanged-then}
use Rattle.fts_sets.specs.declared.leaf.Leaf.{Leaf}
use Rattle.fts_sets.specs.Leaves.{each_has, one_has}
use Rattle.fts_sets.proofs.RowLemmas.{all_more}
use Rattle.fts_sets.proofs.rows.keep_clauses.Goals as goal

pub loop-clause-init : goal.loop-clause-init
loop-clause-init c = AreChanged-none _ c.args.index c.args.row.now (λ d b. and-true b)

pub loop-clause-preserved : goal.loop-clause-preserved
loop-clause-preserved c =
    let list = c.args.clauses.now in
    let l = c.loop-clause in
    let clause = c.clause-item.result in
    let kept = subst (λ (xs : List Leaf). AreChanged (λ doc told. told && one_has xs doc) c.args.index l.row c.keep_some.new.row) c.deref.ensures.value
    c.keep_some.ensures in
    AreChanged-then (λ doc told. told && each_has (take l.clause-index list) doc) (λ doc told. told && one_has clause.items doc)
    (λ doc told. told && each_has (take (l.clause-index + 1) list) doc) c.args.index c.args.row.now l.row _
    (λ d told. all_more (λ (x : Vec Leaf). one_has x.items d) list l.clause-index clause c.loop-clause-test.true c.clause-item.is told) l.invariant kept
