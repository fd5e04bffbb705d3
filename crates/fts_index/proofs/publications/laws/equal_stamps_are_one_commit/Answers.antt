use Rattle.fts_index.proofs.PublicationsLemmas.{one_commit}
use Rattle.fts_index.proofs.publications.laws.equal_stamps_are_one_commit.Goals as goal

pub returns : goal.returns
returns c = one_commit
