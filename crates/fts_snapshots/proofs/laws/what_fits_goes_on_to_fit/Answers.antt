-- The rest of the proof of `laws::what_fits_goes_on_to_fit`.
use Rattle.fts_snapshots.proofs.FollowLemmas.{fits_further}
use Rattle.fts_snapshots.proofs.laws.what_fits_goes_on_to_fit.Goals as goal

pub returns : goal.returns
returns c = fits_further
