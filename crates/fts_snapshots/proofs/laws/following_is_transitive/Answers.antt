-- The rest of the proof of `laws::following_is_transitive`.
use Rattle.fts_snapshots.specs.Successors.{follows_itself, follows_further}
use Rattle.fts_snapshots.proofs.laws.following_is_transitive.Goals as goal

pub returns : goal.returns
returns c = record { itself = follows_itself; further = follows_further }
