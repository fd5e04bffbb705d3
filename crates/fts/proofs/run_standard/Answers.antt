use Rattle.std.proofs.Common.{inl, inr, ⊎_elim}
use Rattle.fts_cli.proofs.StatusLemmas.{of_end, of_failed, of_memory, of_stop, of_used_up}
use Rattle.fts.proofs.run_standard.Goals as goal

pub returns-clause-ok : goal.returns-clause-ok
returns-clause-ok g c = λ e. of_end c.run_script-outcome.result _ (cc) c.run_script-outcome.ensures.ok

pub returns-clause-end : goal.returns-clause-end
returns-clause-end g c = λ e. of_end c.run_script-outcome.result _ (cc) c.run_script-outcome.ensures.end

pub returns-clause-flushed : goal.returns-clause-flushed
returns-clause-flushed g c = λ e. of_end c.run_script-outcome.result _ (cc) c.run_script-outcome.ensures.flushed

pub returns-clause-stopped : goal.returns-clause-stopped
returns-clause-stopped g c = λ ne. of_stop c.run_script-outcome.result _ (λ e. ne (cc)) c.run_script-outcome.ensures.err

pub returns-clause-memory : goal.returns-clause-memory
returns-clause-memory g c = λ e. c.run_script-outcome.ensures.memory (of_memory c.run_script-outcome.result (cc))

pub returns-clause-memory_alone : goal.returns-clause-memory_alone
returns-clause-memory_alone g c = λ e. c.run_script-outcome.ensures.memory_alone (of_memory c.run_script-outcome.result (cc))

pub returns-clause-failed : goal.returns-clause-failed
returns-clause-failed g c = λ e. ⊎_elim
    (λ write. inl (c.run_script-outcome.ensures.write_failed write))
    (λ read. inr (c.run_script-outcome.ensures.read_failed read, c.run_script-outcome.ensures.read read))
    (of_failed c.run_script-outcome.result (cc))

pub returns-clause-used_up : goal.returns-clause-used_up
returns-clause-used_up g c = λ e. c.run_script-outcome.ensures.used_up (of_used_up c.run_script-outcome.result (cc))

pub returns-clause-used_up_alone : goal.returns-clause-used_up_alone
returns-clause-used_up_alone g c = λ e. c.run_script-outcome.ensures.used_up_alone (of_used_up c.run_script-outcome.result (cc))
