-- What only private functions are stated by: no reader of a public contract meets these.
pub mod Joins
pub mod Lent
