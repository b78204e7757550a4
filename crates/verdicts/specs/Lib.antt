pub mod Verdicts
pub mod Certified
pub mod StepCounts
pub mod CheckAnswers
