pub mod Pieces
pub mod Refusals
pub mod Results
pub mod Totals
