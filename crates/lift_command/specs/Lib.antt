pub mod WrittenLines
pub mod Lifts
pub mod LiftTexts
pub mod LiftAnswers
