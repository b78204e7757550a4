pub mod StepRuns
pub mod SpacedLines
pub mod WholeTexts
pub mod PutLines
pub mod Taken
pub mod OneStatus
pub mod LiftOutcomes
