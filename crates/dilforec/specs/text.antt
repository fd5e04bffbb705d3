-- The definitions that contracts of tokens cite.
pub use Rattle.fts_text.specs.Characters
pub use Rattle.fts_text.specs.Places
pub use Rattle.fts_text.specs.Tokens
