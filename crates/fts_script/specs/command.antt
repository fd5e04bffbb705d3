pub mod AnswerData
pub mod AnswerTexts
pub mod CommandViews
pub mod Commands
pub mod Cuts
pub mod MostFrequent
