-- The definitions that contracts cite.
pub mod BegunMerges
pub mod EndedMerges
pub mod LocalIndexes
pub mod LocalPolicies
pub mod Stats
