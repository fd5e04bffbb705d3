use Rattle.fts_index.proofs.PublicationsLemmas.{newest_follows}
use Rattle.fts_index.proofs.publications.laws.newest_follows.Goals as goal

pub returns : goal.returns
returns c = newest_follows
