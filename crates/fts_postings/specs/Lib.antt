pub mod Remaining
pub mod Takes
pub mod Posting
pub mod Bounds
pub mod Sets
pub mod Conjoined
pub mod Windows
