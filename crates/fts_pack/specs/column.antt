pub mod BlockRanges
pub mod Column
pub mod Counts
pub mod Interval
pub mod OffsetArray
