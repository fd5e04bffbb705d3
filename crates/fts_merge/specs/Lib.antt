pub mod Strikes
pub mod Levels
pub mod Merges
pub mod FieldJobs
pub mod Internals
