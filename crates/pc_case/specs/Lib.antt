pub mod Plain
pub mod MicroOps
pub mod Stated
pub mod NameSets
pub mod Cuts
pub mod Tables
