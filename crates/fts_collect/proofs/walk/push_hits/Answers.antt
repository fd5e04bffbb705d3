use Rattle.std.proofs.Common.{◌∙◌, ◌++◌, ◌∷◌, [], ap, append_assoc, filter, get_or, sym, take}
use Rattle.std.proofs.lemmas.List.{take_all, take_more}
use Rattle.std.proofs.lemmas.List.Elements.{filter-append}
use Rattle.fts_postings.specs.Sets.{has}
use Rattle.fts_collect.proofs.walk.push_hits.Goals as goal

pub loop-doc-preserved : goal.loop-doc-preserved
loop-doc-preserved c =
    let p = has c.args.hits.now in
    let docs = c.args.docs.now in
    let i = c.loop-doc.doc-index in
    let old = c.args.found.now.items in
    let doc = get_or docs i 0 in
    c.in_ok-push_hit.ensures
    ∙ ap (λ xs. xs ++ filter p (doc ∷ [])) c.loop-doc.invariant
    ∙ append_assoc old (filter p (take i docs)) (filter p (doc ∷ []))
    ∙ ap (λ xs. old ++ xs) (sym (ap (filter p) (take_more docs i 0 c.loop-doc-test.true) ∙ filter-append p (take i docs) (doc ∷ [])))

pub returns : goal.returns
returns c =
    c.loop-doc.invariant
    ∙ ap (λ ds. c.args.found.now.items ++ filter (has c.args.hits.now) ds) (take_all c.loop-doc.doc-index c.args.docs.now c.loop-doc-test.false)
