-- The lemmas.
pub mod LocalLemmas
pub mod StatsLemmas
