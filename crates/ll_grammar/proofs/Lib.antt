pub mod ViablePrefixes
pub mod Symbols
pub mod Stack
pub mod Progress
pub mod Faults
pub mod DerivesLaws
pub mod Shallow
pub mod Existence
