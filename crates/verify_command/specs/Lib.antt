pub mod Reading
pub mod VerifyAnswers
pub mod LiftedTexts
pub mod LiftedAnswers
