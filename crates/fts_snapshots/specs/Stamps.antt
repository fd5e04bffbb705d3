-- The bounds on the stamps of a commit.
use Rattle.std.specs.Prelude.{ℕ, ◌<◌, ◌^◌, length, All}
use Rattle.fts_snapshots.specs.Snapshots.{SnapshotValue, content_of}

-- a commit stamp is below 2^62, and the stamps of the content are below it; the documents are fewer than 2^64
pub record IsStamped (stamp : ℕ) (snapshot : SnapshotValue) : Type 0 where
  pub small : stamp < 2 ^ 62
  pub below : All (λ document. document.stamp < stamp) (content_of snapshot)
  pub few : length (content_of snapshot) < 2 ^ 64
