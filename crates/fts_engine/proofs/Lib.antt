pub mod Adds
pub mod FitLemmas
