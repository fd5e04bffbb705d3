pub mod Openings
pub mod Internals
pub mod Searches
