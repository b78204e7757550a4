pub mod PlainFacts
pub mod Parts
pub mod Lifted
pub mod Steps
pub mod OpenBranches
pub mod Opens
pub mod Laws
pub mod LawsOfBranches
