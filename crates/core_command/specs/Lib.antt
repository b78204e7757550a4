pub mod CoreTexts
pub mod Found
pub mod CoreAnswers
