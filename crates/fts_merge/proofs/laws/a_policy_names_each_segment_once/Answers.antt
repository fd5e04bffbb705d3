use Rattle.fts_merge.specs.Levels.{live_sizes}
use Rattle.fts_merge.proofs.CandidatesLemmas.{together-many}
use Rattle.fts_merge.proofs.AloneLemmas.{candidates_by-within, candidates_by-once, candidates_by-dead, candidates_by-usual}
use Rattle.fts_merge.proofs.laws.a_policy_names_each_segment_once.Goals as goal

pub returns-clause-many : goal.returns-clause-many
returns-clause-many c = λ policy segments. together-many policy (live_sizes segments)

pub returns-clause-within : goal.returns-clause-within
returns-clause-within c = candidates_by-within

pub returns-clause-once : goal.returns-clause-once
returns-clause-once c = candidates_by-once

pub returns-clause-dead : goal.returns-clause-dead
returns-clause-dead c = candidates_by-dead

pub returns-clause-usual : goal.returns-clause-usual
returns-clause-usual c = candidates_by-usual
