pub mod CharacterLemmas
pub mod FoldLemmas
pub mod PlaceLemmas
pub mod SpanLemmas
pub mod FrontLemmas
pub mod StretchLemmas
