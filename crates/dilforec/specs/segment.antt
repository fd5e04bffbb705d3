-- The definitions that contracts of segments cite.
pub use Rattle.fts_segment.specs.Between
pub use Rattle.fts_segment.specs.Contents
pub use Rattle.fts_segment.specs.FieldIndexes
pub use Rattle.fts_segment.specs.Keywords
pub use Rattle.fts_segment.specs.ListIds
pub use Rattle.fts_positions.specs.PositionsLeft
pub use Rattle.fts_segment.specs.Segments
pub use Rattle.fts_segment.specs.Sources
pub use Rattle.fts_segment.specs.SegmentData
