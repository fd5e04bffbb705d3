pub mod AnswersGroups
pub mod AnswersNumbers
pub mod AnswersOrder
pub mod AnswersSteps
pub mod AnswersTop
pub mod Counts
mod DocumentsNames
mod PlacesSought
mod QueriesPhrases
pub mod SortedCounts
