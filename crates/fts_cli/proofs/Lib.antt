pub mod ParseLemmas
pub mod RangeLemmas
pub mod StatusLemmas
