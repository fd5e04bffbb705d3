-- The lemmas that callers need.
pub use Rattle.fts_engine.proofs.FitLemmas
pub use Rattle.fts_rounds.proofs.RoundsDealtLemmas
pub use Rattle.fts_snapshots.proofs.FollowLemmas
