pub mod Arguments
pub mod RunOptions
