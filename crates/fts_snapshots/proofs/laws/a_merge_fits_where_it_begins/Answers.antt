-- The rest of the proof of `laws::a_merge_fits_where_it_begins`.
use Rattle.fts_snapshots.proofs.LateBeginLemmas.{fits_begun}
use Rattle.fts_snapshots.proofs.laws.a_merge_fits_where_it_begins.Goals as goal

pub returns : goal.returns
returns c = fits_begun
