use Rattle.fts_index.proofs.PublicationsLemmas.{answers_alike}
use Rattle.fts_index.proofs.publications.laws.one_commit_answers_alike.Goals as goal

pub returns : goal.returns
returns c = answers_alike
