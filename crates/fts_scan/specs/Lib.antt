pub mod Names
pub mod Scans
