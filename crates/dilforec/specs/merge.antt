-- The definitions that contracts of deletes, plans and merges cite.
pub use Rattle.fts_merge.specs.Levels
pub use Rattle.fts_merge.specs.Merges
pub use Rattle.fts_merge.specs.Strikes
