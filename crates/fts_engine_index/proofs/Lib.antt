pub mod CommitLemmas
pub mod EngineLemmas
