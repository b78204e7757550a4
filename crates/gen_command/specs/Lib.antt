pub mod Ring
pub mod Texts
pub mod Summaries
pub mod Reports
pub mod GenAnswers
