-- The definitions that contracts cite.
pub mod Rounds
pub mod RoundsDrawn
pub mod Shuffles
