pub mod Parts
pub mod Collected
pub mod Tallies
pub mod Keys
pub mod Ranks
pub mod Internals
