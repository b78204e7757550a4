pub mod Taking
pub mod Numbered
pub mod Tries
pub mod AxiomsWith
pub mod Faultless
pub mod SameCores
