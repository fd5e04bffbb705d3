pub mod BlockLemmas
pub mod DocumentsLemmas
pub mod LaneLemmas
pub mod ListsLemmas
pub mod PackedListLemmas
pub mod NumbersLemmas
pub mod PackedLemmas
pub mod SumLemmas
pub mod BitsLemmas
pub mod DigitsLemmas
pub mod PackingLemmas
pub mod VectorLemmas
pub mod BlocksLemmas
pub mod ColumnLemmas
pub mod CountsLemmas
mod IntervalLemmas
mod LanesLemmas
pub mod ChangeLemmas
