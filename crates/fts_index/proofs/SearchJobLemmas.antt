-- What the jobs of a search answer.
use Rattle.std.proofs.Common.{◌≡◌, List, [], ◌∷◌, map, Result, Ok, Err, subst, ⊎_elim}
use Rattle.std.specs.List.{AllZip, Contains}
use Rattle.fts_model.specs.declared.query.Request.{Request}
use Rattle.fts_base.specs.declared.refusal.Refusal.{Refusal}
use Rattle.fts_base.specs.declared.refusal.Refusal.TheVariants.{Memory}
use Rattle.fts_model.specs.QueryValues.{QueryValue}
use Rattle.fts_model.proofs.Lists.{Contains-cases, Contains-none}
use Rattle.fts_parts.specs.Parts.{PartValue}
use Rattle.fts_snapshots.specs.Entries.{EntryValue}
use Rattle.fts_collect.specs.Searches.{IsPartOf}
use Rattle.fts_index.specs.SearchJobs.{AnswersSearch, Asked, asked_of, asks, Tells}
use Rattle.fts_index.specs.declared.searches.search_job.SearchJob.{SearchJob}

told_at : (query : QueryValue) (request : Request) (job : SearchJob) (answer : Result PartValue Refusal) (entry : EntryValue) (part : PartValue) →
    AnswersSearch job answer → asked_of job ≡ asks query request entry → answer ≡ Ok part → IsPartOf query request entry part
told_at query request job answer entry part h e f = (subst (Tells (asks query request entry)) f (subst (λ (a : Asked). Tells a answer) e h)).0

-- the answers of the jobs are parts of their segments
pub parts_told : (query : QueryValue) (request : Request) (jobs : List SearchJob) (answers : List (Result PartValue Refusal)) (entries : List EntryValue)
    (parts : List PartValue) →
    AllZip AnswersSearch jobs answers → map asked_of jobs ≡ map (asks query request) entries → answers ≡ map (λ part. Ok part) parts →
    AllZip (IsPartOf query request) entries parts
parts_told query request [] [] [] [] z e f = tt
parts_told query request [] [] [] (part ∷ parts) z e f = cc
parts_told query request [] [] (entry ∷ entries) parts z e f = cc
parts_told query request [] (answer ∷ answers) entries parts z e f = absurd z
parts_told query request (job ∷ jobs) [] entries parts z e f = absurd z
parts_told query request (job ∷ jobs) (answer ∷ answers) [] parts z e f = cc
parts_told query request (job ∷ jobs) (answer ∷ answers) (entry ∷ entries) [] z e f = cc
parts_told query request (job ∷ jobs) (answer ∷ answers) (entry ∷ entries) (part ∷ parts) z e f =
    let first : asked_of job ≡ asks query request entry = cc in
    let others : map asked_of jobs ≡ map (asks query request) entries = cc in
    let told : answer ≡ Ok part = cc in
    let rest : answers ≡ map (λ part. Ok part) parts = cc in
    (told_at query request job answer entry part z.0 first told, parts_told query request jobs answers entries parts z.1 others rest)

-- a job is refused for memory alone
pub refused_for_memory : (jobs : List SearchJob) (answers : List (Result PartValue Refusal)) (refusal : Refusal) → AllZip AnswersSearch jobs answers →
    Contains answers (Err refusal) → refusal ≡ Memory
refused_for_memory [] [] refusal z c = absurd (Contains-none (Err refusal) c)
refused_for_memory [] (answer ∷ answers) refusal z c = absurd z
refused_for_memory (job ∷ jobs) [] refusal z c = absurd z
refused_for_memory (job ∷ jobs) (answer ∷ answers) refusal z c =
    ⊎_elim (λ (e : answer ≡ Err refusal). (subst (Tells (asked_of job)) e z.0).1)
    (λ (behind : Contains answers (Err refusal)). refused_for_memory jobs answers refusal z.1 behind)
    (Contains-cases answer answers (Err refusal) c)
