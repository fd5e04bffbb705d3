use Rattle.fts_merge.proofs.CandidatesLemmas.{candidates-many, candidates-within, candidates-once}
use Rattle.fts_merge.proofs.laws.candidates_name_each_size_once.Goals as goal

pub returns-clause-many : goal.returns-clause-many
returns-clause-many c = candidates-many

pub returns-clause-within : goal.returns-clause-within
returns-clause-within c = candidates-within

pub returns-clause-once : goal.returns-clause-once
returns-clause-once c = candidates-once
