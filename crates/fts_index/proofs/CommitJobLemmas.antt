-- The answers of the jobs of a commit.
use Rattle.std.proofs.Common.{◌≡◌, ◌<◌, ◌+◌, ℕ, zero, suc, refl, List, [], ◌∷◌, ◌++◌, length, get_or, take, map, filter, Result, Ok, Err, sym, subst, arith}
use Rattle.std.specs.List.{AllZip}
use Rattle.fts_base.specs.declared.refusal.Refusal.{Refusal}
use Rattle.fts_base.specs.declared.refusal.Refusal.TheVariants.{Memory}
use Rattle.fts_snapshots.specs.Entries.{EntryValue, has_live}
use Rattle.fts_snapshots.specs.Jobs.{entry_of, Answers}
use Rattle.fts_snapshots.specs.declared.commits.commit_job.CommitJob.{CommitJob}
use Rattle.fts_snapshots.proofs.JobLemmas.{kept_in_turn}
use Rattle.fts_index.specs.CommitJobs.{AreAnswers}

-- a job's answer is what the job itself leaves
answer_at : (jobs : List CommitJob) (results : List (Result EntryValue Refusal)) (k : ℕ) (job : CommitJob) (result : Result EntryValue Refusal) →
    AreAnswers jobs results → k < length results →
    result ≡ get_or results k result → Answers (get_or jobs k job) result
answer_at jobs results k job result a l e = subst (λ r. Answers (get_or jobs k job) r) (sym e) (a.each k job result (omega (arith, l, a.count)))

-- a job is refused for memory alone
pub memory_only : (jobs : List CommitJob) (results : List (Result EntryValue Refusal)) (k : ℕ) (result : Result EntryValue Refusal) (refusal : Refusal) →
    AreAnswers jobs results → k < length results →
    result ≡ get_or results k result → result ≡ Err refusal → refusal ≡ Memory
memory_only [] results k result refusal a l e f = absurd (omega (arith, l, a.count))
memory_only (job ∷ jobs) results k result refusal a l e f =
    (subst (λ r. Answers (get_or (job ∷ jobs) k job) r) f (answer_at (job ∷ jobs) results k job result a l e)).1

-- one more job's segment
pub kept_more : (jobs : List CommitJob) (results : List (Result EntryValue Refusal)) (k : ℕ) (result : Result EntryValue Refusal) (entry : EntryValue)
    (kept : List EntryValue) → AreAnswers jobs results →
    k < length results → result ≡ get_or results k result → result ≡ Ok entry → kept ≡ filter has_live (map entry_of (take k jobs)) →
    kept ++ filter has_live (entry ∷ []) ≡ filter has_live (map entry_of (take (k + 1) jobs))
kept_more [] results k result entry kept a l e f h = absurd (omega (arith, l, a.count))
kept_more (job ∷ jobs) results k result entry kept a l e f h =
    let here = get_or (job ∷ jobs) k job in
    let within : k < length (job ∷ jobs) = omega (arith, l, a.count) in
    let same : entry ≡ entry_of here = (subst (λ r. Answers here r) f (answer_at (job ∷ jobs) results k job result a l e)).0 in
    kept_in_turn (job ∷ jobs) k job here entry kept within refl same h

zip-count : (jobs : List CommitJob) (results : List (Result EntryValue Refusal)) → AllZip Answers jobs results → length results ≡ length jobs
zip-count [] [] h = refl
zip-count [] (result ∷ results) h = absurd h
zip-count (job ∷ jobs) [] h = absurd h
zip-count (job ∷ jobs) (result ∷ results) h = omega (arith, zip-count jobs results h.1)

zip-each : (jobs : List CommitJob) (results : List (Result EntryValue Refusal)) (i : ℕ) (job : CommitJob) (result : Result EntryValue Refusal) →
    AllZip Answers jobs results → i < length jobs → Answers (get_or jobs i job) (get_or results i result)
zip-each [] results i job result h within = absurd (omega (arith, within))
zip-each (first ∷ jobs) [] i job result h within = absurd h
zip-each (first ∷ jobs) (answer ∷ results) zero job result h within = h.0
zip-each (first ∷ jobs) (answer ∷ results) (suc i) job result h within = zip-each jobs results i job result h.1 (omega (arith, within))

-- the answers of a pool
pub answers_of_all : (jobs : List CommitJob) (results : List (Result EntryValue Refusal)) → AllZip Answers jobs results → AreAnswers jobs results
answers_of_all jobs results h = record { count = zip-count jobs results h; each = λ i job result within. zip-each jobs results i job result h within }
