pub mod Fronts
pub mod VerdictTexts
pub mod CertifiedTruth
pub mod FrontVerdicts
pub mod StepCounts
pub mod CheckOutcomes
