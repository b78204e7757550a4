pub mod Sweeps
pub mod Patterns
pub mod Texts
pub mod SweepAnswers
pub mod Laws
