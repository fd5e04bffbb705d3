pub mod PiecesLemmas
pub mod TotalsLemmas
