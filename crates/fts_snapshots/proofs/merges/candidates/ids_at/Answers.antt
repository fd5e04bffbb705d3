-- The rest of the proof of `merges::candidates::ids_at`.
use Rattle.std.proofs.Common.{◌∷◌, [], ◌++◌, get_or, map, take, sym, ap, ◌∙◌}
use Rattle.std.proofs.lemmas.List.{map-append, take_more}
use Rattle.fts_snapshots.specs.Infos.{id_at}
use Rattle.fts_snapshots.proofs.PlanLemmas.{id_at-within}
use Rattle.fts_snapshots.proofs.merges.candidates.ids_at.Goals as goal

pub loop-index-preserved : goal.loop-index-preserved
loop-index-preserved c =
    let es = c.args.entries.now in
    let indexes = c.args.indexes.now in
    let i = c.loop-index.index-index in
    let index = get_or indexes i 0 in
    let before = map (id_at es) (take i indexes) in
    c.in_ok-push.ensures.items
    ∙ ap (λ ids. ids ++ c.id.result ∷ []) c.loop-index.invariant
    ∙ ap (λ n. before ++ n ∷ []) (c.id.ensures ∙ sym (id_at-within es index c.index-entries-index.result (c.requires i 0 c.loop-index-test.true)
    c.index-entries-index.is))
    ∙ sym (map-append (id_at es) (take i indexes) (index ∷ []))
    ∙ ap (map (id_at es)) (sym (take_more indexes i 0 c.loop-index-test.true))
