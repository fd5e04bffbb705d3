-- The rest of the proof of `Snapshot::plan`: the usual policy looks at live documents alone.
use Rattle.std.proofs.Common.{◌≡◌, ◌∙◌, List, ap, sym, map}
use Rattle.std.proofs.lemmas.Result.{IfOk-weaker}
use Rattle.fts_merge.specs.Levels.{candidates, usual}
use Rattle.fts_merge.specs.declared.merge_policy.MergePolicy.{MergePolicy}
use Rattle.fts_merge.proofs.AloneLemmas.{candidates_by-usual}
use Rattle.fts_segment.proofs.OccurrencesLemmas.{map-map}
use Rattle.fts_snapshots.specs.Entries.{EntryValue}
use Rattle.fts_snapshots.specs.Infos.{candidate_ids, candidate_ids_by, id_at, size_of}
use Rattle.fts_snapshots.proofs.snapshot.Snapshot.plan.Goals as goal

-- the candidates of the usual policy are those of the live sizes
usual_candidates : (es : List EntryValue) → candidate_ids_by usual es ≡ candidate_ids es
usual_candidates es =
    ap (map (map (id_at es))) (candidates_by-usual (map size_of es) ∙ ap candidates (sym (map-map (λ s. s.live) size_of es)))

pub returns-clause-candidates : goal.returns-clause-candidates
returns-clause-candidates c = IfOk-weaker c.plan_by.result _ _
    (λ found is. is ∙ ap (λ (p : MergePolicy). candidate_ids_by p c.args.self.now.entries) c.usual.ensures ∙ usual_candidates c.args.self.now.entries)
    c.plan_by.ensures.candidates
