-- The definitions that contracts cite.
pub mod Publications
pub mod PublicationsHistory
pub mod PublicationsShown
pub mod Writers
pub mod CommitJobs
pub mod SearchJobs
