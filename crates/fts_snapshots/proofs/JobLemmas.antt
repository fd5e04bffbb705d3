-- Jobs that are run one after the other.
use Rattle.std.proofs.Common.{◌≡◌, ◌<◌, ◌+◌, ℕ, List, [], ◌∷◌, ◌++◌, length, get_or, take, map, filter, Result, Ok, Err, IfErr, IsOkUnless, sym, ap, ◌∙◌}
use Rattle.std.proofs.lemmas.List.{take_more, map-append}
use Rattle.std.proofs.lemmas.List.Elements.{filter-append}
use Rattle.fts_base.specs.declared.refusal.Refusal.{Refusal}
use Rattle.fts_base.specs.declared.refusal.Refusal.TheVariants.{Memory}
use Rattle.fts_snapshots.specs.Entries.{EntryValue, has_live}
use Rattle.fts_snapshots.specs.Jobs.{entry_of}
use Rattle.fts_snapshots.specs.declared.commits.commit_job.CommitJob.{CommitJob}

-- the segment of one more job
pub kept_in_turn : (jobs : List CommitJob) (i : ℕ) (d job : CommitJob) (entry : EntryValue) (kept : List EntryValue) → i < length jobs → job ≡ get_or jobs i d →
    entry ≡ entry_of job →
    kept ≡ filter has_live (map entry_of (take i jobs)) → kept ++ filter has_live (entry ∷ []) ≡ filter has_live (map entry_of (take (i + 1) jobs))
kept_in_turn jobs i d job entry kept within is same h =
    let before = map entry_of (take i jobs) in
    ap (λ es. es ++ filter has_live (entry ∷ [])) h
    ∙ sym (filter-append has_live before (entry ∷ []))
    ∙ ap (λ x. filter has_live (before ++ x ∷ [])) same
    ∙ ap (filter has_live) (sym (map-append entry_of (take i jobs) (job ∷ [])))
    ∙ ap (λ js. filter has_live (map entry_of js)) (sym (take_more jobs i d within ∙ ap (λ j. take i jobs ++ j ∷ []) (sym is)))

pub for_memory_alone : {X : Type 0} (r : Result X Refusal) (P : Refusal → Type 0) → ((e : Refusal) → P e → e ≡ Memory) → IfErr r P → IsOkUnless r Memory
for_memory_alone (Ok x) P f h = tt
for_memory_alone (Err e) P f h = f e h
