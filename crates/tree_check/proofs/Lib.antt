pub mod FactSet
pub mod BranchFacts
pub mod SideFacts
pub mod OrRows
pub mod Closes
pub mod Runs
pub mod Steps
mod Followed
mod Kept
