pub mod RowAnswers
pub mod PatternFiles
pub mod SweepOutcomes
pub mod Shown
pub mod SweepTexts
