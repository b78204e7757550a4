pub mod PartFronts
pub mod CertifiedCores
pub mod CoreOutcomes
pub mod BesideTexts
