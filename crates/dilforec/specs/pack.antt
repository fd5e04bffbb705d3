-- The definitions that contracts of packed numbers cite.
pub use Rattle.fts_pack.specs.Block
pub use Rattle.fts_pack.specs.Documents
pub use Rattle.fts_pack.specs.FourLanes
pub use Rattle.fts_pack.specs.ListRange
pub use Rattle.fts_pack.specs.ListRef
pub use Rattle.fts_pack.specs.ListSource
pub use Rattle.fts_pack.specs.Lists
pub use Rattle.fts_pack.specs.SourceLaws
pub use Rattle.fts_pack.specs.bits.Bits
pub use Rattle.fts_pack.specs.bits.Changes
pub use Rattle.fts_pack.specs.bits.Digits
pub use Rattle.fts_pack.specs.column.BlockRanges
pub use Rattle.fts_pack.specs.column.Column
pub use Rattle.fts_pack.specs.column.Counts
pub use Rattle.fts_pack.specs.column.OffsetArray as ColumnLanes
