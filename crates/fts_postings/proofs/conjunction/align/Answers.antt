-- Each turn ends at a document of all, or with less that remains.
use Rattle.std.proofs.Common.{sym, ◌∙◌}
use Rattle.fts_postings.proofs.ConjoinedLemmas.{Aligning-start, common-brought, AreFew-brought, others-brought, fewer_left, Aligning-sought, Aligning-finished}
use Rattle.fts_postings.proofs.conjunction.align.Goals as goal

pub loop-doc-init : goal.loop-doc-init
loop-doc-init g c = Aligning-start c.args.lead.now c.args.others.now c.requires.few

pub returns-in-Some-bring-clause-common : goal.returns-in-Some-bring-clause-common
returns-in-Some-bring-clause-common g c =
    common-brought c.args.lead.now c.args.others.now c.loop-doc.lead c.loop-doc.lead c.loop-doc.others c.bring.new.others c.in-Some.doc c.loop-doc.invariant
    c.doc.ensures.rises (sym c.in-Some.is ∙ c.doc.ensures.first) c.bring.ensures.each

pub returns-in-Some-bring-clause-few : goal.returns-in-Some-bring-clause-few
returns-in-Some-bring-clause-few g c =
    AreFew-brought c.args.lead.now c.args.others.now c.loop-doc.lead c.loop-doc.lead c.loop-doc.others c.bring.new.others c.in-Some.doc c.loop-doc.invariant
    c.doc.ensures.rises (sym c.in-Some.is ∙ c.doc.ensures.first) c.bring.ensures.each

pub returns-in-Some-bring-clause-others : goal.returns-in-Some-bring-clause-others
returns-in-Some-bring-clause-others g c =
    others-brought c.args.lead.now c.args.others.now c.loop-doc.lead c.loop-doc.lead c.loop-doc.others c.bring.new.others c.in-Some.doc c.loop-doc.invariant
    c.doc.ensures.rises (sym c.in-Some.is ∙ c.doc.ensures.first) c.bring.ensures.each

pub loop-doc-smaller-in-Some-2 : goal.loop-doc-smaller-in-Some-2
loop-doc-smaller-in-Some-2 g c =
    let ahead = rw c.in-Some-bring.is at c.bring.ensures.next in
    fewer_left c.args.lead.now c.args.others.now c.loop-doc.lead c.seek.new.self c.loop-doc.others c.bring.new.others c.in-Some.doc c.loop-doc.invariant
    c.doc.ensures.rises (sym c.in-Some.is ∙ c.doc.ensures.first) c.bring.ensures.each c.in-Some-bring.next ahead c.if-next-doc.false
    c.seek.ensures.remaining

pub loop-doc-preserved-in-Some-2 : goal.loop-doc-preserved-in-Some-2
loop-doc-preserved-in-Some-2 g c =
    let ahead = rw c.in-Some-bring.is at c.bring.ensures.next in
    Aligning-sought c.args.lead.now c.args.others.now c.loop-doc.lead c.seek.new.self c.loop-doc.others c.bring.new.others c.in-Some.doc c.loop-doc.invariant
    c.doc.ensures.rises (sym c.in-Some.is ∙ c.doc.ensures.first) c.bring.ensures.each c.in-Some-bring.next ahead c.if-next-doc.false
    c.seek.ensures.remaining c.seek.ensures.follows

pub loop-doc-preserved : goal.loop-doc-preserved
loop-doc-preserved g c =
    let none = rw c.in-None.is at c.bring.ensures.next in
    Aligning-finished c.args.lead.now c.args.others.now c.loop-doc.lead c.finish.new.self c.loop-doc.others c.bring.new.others c.in-Some.doc
    c.loop-doc.invariant c.doc.ensures.rises (sym c.in-Some.is ∙ c.doc.ensures.first) c.bring.ensures.each none c.finish.ensures.nothing
    c.finish.ensures.follows
