-- The rest of the proof of `laws::commits_and_merges_are_followed`.
use Rattle.fts_snapshots.proofs.FollowLemmas.{follows_commit, follows_end}
use Rattle.fts_snapshots.proofs.laws.commits_and_merges_are_followed.Goals as goal

pub returns : goal.returns
returns c = record { commit = follows_commit; end_merge = follows_end }
