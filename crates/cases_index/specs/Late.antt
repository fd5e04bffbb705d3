-- Segments that were merged beside a writer.
use Rattle.std.specs.Prelude.{List, All}
use Rattle.dilforec.specs.MergedSegments.{MergedSegmentValue}
use Rattle.dilforec.specs.Snapshots.{SnapshotValue}
use Rattle.dilforec.specs.Successors.{Fits}

-- each of them can take the place of its sources
abbrev pub AllFit : SnapshotValue → List MergedSegmentValue → Type 0
AllFit snapshot merged = All (λ m. Fits m snapshot) merged
