-- The definitions that contracts of cursors cite.
pub use Rattle.fts_postings.specs.Bounds
pub use Rattle.fts_postings.specs.Posting
pub use Rattle.fts_postings.specs.Remaining
pub use Rattle.fts_postings.specs.Sets
pub use Rattle.fts_postings.specs.Takes
pub use Rattle.fts_postings.specs.Windows
pub use Rattle.fts_cursor.specs.Builds
pub use Rattle.fts_cursor.specs.Hits
pub use Rattle.fts_cursor.specs.Most
pub use Rattle.fts_cursor.specs.Openings
pub use Rattle.fts_cursor.specs.Standing
