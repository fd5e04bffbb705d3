pub mod SetLemmas
pub mod ToldLemmas
pub mod KeptLemmas
pub mod RowLemmas
pub mod MarkLemmas
pub mod CursorLemmas
