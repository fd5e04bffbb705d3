-- What is left of the proof of `searches::segment_parts_by`.
use Rattle.std.proofs.Common.{◌≡◌, map, subst, ⊎_elim}
use Rattle.std.proofs.lemmas.Result.{IfOk-weaker}
use Rattle.fts_model.specs.QueryValues.{QueryValue, query_value}
use Rattle.fts_index.specs.SearchJobs.{asks, asked_of}
use Rattle.fts_snapshots.proofs.JobLemmas.{for_memory_alone}
use Rattle.fts_index.proofs.SearchJobLemmas.{parts_told, refused_for_memory}
use Rattle.fts_index.proofs.searches.segment_parts_by.Goals as goal

pub returns-clause-parts : goal.returns-clause-parts
returns-clause-parts g c =
    let jobs = c.in_ok-jobs.jobs.items in
    let request = c.args.request.now in
    let entries = c.args.entries.now in
    let asked = subst (λ (q : QueryValue). map asked_of jobs ≡ map (asks q request) entries) c.in_ok-query.ensures c.in_ok-jobs.ensures in
    IfOk-weaker c.parts_of.result _ _
    (λ parts told. parts_told (query_value c.args.query.now) request jobs c.in_ok-answers.answers.items entries parts.items c.in_ok-answers.ensures.ok asked
    told)
    c.parts_of.ensures.ok

pub returns-clause-memory : goal.returns-clause-memory
returns-clause-memory g c =
    for_memory_alone c.parts_of.result _
    (λ e refused. ⊎_elim (λ memory. memory)
    (refused_for_memory c.in_ok-jobs.jobs.items c.in_ok-answers.answers.items e c.in_ok-answers.ensures.ok) refused)
    c.parts_of.ensures.err
