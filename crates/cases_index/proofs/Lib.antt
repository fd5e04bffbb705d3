-- The lemmas.
pub mod LateLemmas
