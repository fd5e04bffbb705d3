-- What merges leave of a commit.
use Rattle.std.specs.Prelude.{◌≡◌}
use Rattle.fts_snapshots.specs.Successors.{Follows}
use Rattle.fts_snapshots.specs.declared.commit_point.CommitPoint.{CommitPoint}

-- the stamp is the same, and the snapshot follows
pub record IsLaterCommit (old new : CommitPoint) : Type 0 where
  pub stamp : new.stamp ≡ old.stamp
  pub follows : Follows old.snapshot new.snapshot
