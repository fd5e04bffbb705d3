-- The definitions that contracts of parts cite.
pub use Rattle.fts_parts.specs.Parts
pub use Rattle.fts_collect.specs.Openings
