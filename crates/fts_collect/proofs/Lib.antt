pub mod SeenLemmas
pub mod LiveLemmas
pub mod OpeningsLemmas
pub mod WalkLemmas
pub mod BetweenLemmas
pub mod WalkedLemmas
pub mod SearchLemmas
