-- The rest of the proof of `merges::candidates::candidates_by`.
use Rattle.std.proofs.Common.{◌<◌, ℕ, All, List, length, map, sym, ap, subst, ◌∙◌}
use Rattle.std.specs.List.{flat_map}
use Rattle.std.proofs.lemmas.List.{length-map}
use Rattle.fts_merge.specs.Levels.{candidates_by}
use Rattle.fts_merge.proofs.AloneLemmas.{candidates_by-within}
use Rattle.fts_snapshots.specs.Infos.{id_at, size_of}
use Rattle.fts_snapshots.proofs.PlanLemmas.{within_lists}
use Rattle.fts_snapshots.proofs.merges.candidates.candidates_by.Goals as goal
use Rattle.fts_segment.proofs.OccurrencesLemmas.{map-map}

pub all_ids_at-requires : goal.all_ids_at-requires
all_ids_at-requires c =
    let es = c.args.entries.now in
    let p = c.args.policy.now in
    let sizes = c.deref.result.now in
    let lists = c.deref-2.result.now in
    let count = ap length (c.deref.ensures.value ∙ c.in_ok-sizes.ensures) ∙ length-map es size_of in
    let found = ap (map (λ v. v.items)) c.deref-2.ensures.value ∙ c.in_ok-found.ensures.candidates in
    within_lists (λ v. v.items) (length es) lists
    (subst (λ (ls : List (List ℕ)). All (λ i. i < length es) (flat_map (λ c. c) ls)) (sym found)
    (subst (λ n. All (λ i. i < n) (flat_map (λ c. c) (candidates_by p sizes))) count (candidates_by-within p sizes)))

pub returns-clause-candidates : goal.returns-clause-candidates
returns-clause-candidates c =
    let es = c.args.entries.now in
    let view = ap (map (λ v. v.items)) c.deref-2.ensures.value ∙ c.in_ok-found.ensures.candidates
    ∙ ap (candidates_by c.args.policy.now) (c.deref.ensures.value ∙ c.in_ok-sizes.ensures) in
    c.in_ok-all_ids_at.ensures ∙ map-map (map (id_at es)) (λ v. v.items) c.deref-2.result.now ∙ ap (map (map (id_at es))) view
