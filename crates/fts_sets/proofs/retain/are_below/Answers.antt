-- One document more is below.
use Rattle.std.proofs.Common.{◌<◌, All, subst}
use Rattle.std.proofs.lemmas.List.{take_all}
use Rattle.std.proofs.lemmas.List.Elements.{All-more}
use Rattle.fts_sets.proofs.retain.are_below.Goals as goal

pub loop-doc-preserved : goal.loop-doc-preserved
loop-doc-preserved c = All-more (λ d. d < c.args.count) c.args.docs.now c.loop-doc.doc-index 0 c.loop-doc-test.true c.loop-doc.invariant c.if-doc-count.false

pub returns : goal.returns
returns c = λ _. subst (λ xs. All (λ d. d < c.args.count) xs) (take_all c.loop-doc.doc-index c.args.docs.now c.loop-doc-test.false) c.loop-doc.invariant
