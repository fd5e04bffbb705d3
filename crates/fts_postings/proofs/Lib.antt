pub mod RemainingLemmas
pub mod TakesLemmas
pub mod PostingLemmas
pub mod SetLemmas
pub mod PassingLemmas
pub mod CostLemmas
pub mod WordsLemmas
pub mod ConjoinedLemmas
pub mod UnionLemmas
pub mod WindowLemmas
pub mod MarksLemmas
pub mod MarkingLemmas
pub mod TakingLemmas
mod PlacesLemmas
