-- What is left of the proof of `commit::entries_of_jobs`.
use Rattle.std.proofs.lemmas.Result.{IfOk-weaker}
use Rattle.fts_snapshots.proofs.JobLemmas.{for_memory_alone}
use Rattle.fts_index.proofs.CommitJobLemmas.{answers_of_all}
use Rattle.fts_index.proofs.commit.entries_of_jobs.Goals as goal

pub returns : goal.returns
returns g c =
    let jobs = c.args.jobs.now in
    let answers = answers_of_all jobs c.in_ok-answers.answers.items c.in_ok-answers.ensures.ok in record {
      ok = IfOk-weaker c.assemble.result _ _ (λ entries h. h jobs answers) c.assemble.ensures.ok;
      memory = for_memory_alone c.assemble.result _ (λ e h. h jobs answers) c.assemble.ensures.memory;
    }
