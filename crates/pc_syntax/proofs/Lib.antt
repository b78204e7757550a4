pub mod ExpansionLaws
pub mod NoFault
pub mod Slots
pub mod ClosingTruth
pub mod ClosingShape
pub mod ClosingStages
pub mod ExpandedLaws
pub mod RenamedItems
mod Predicates
mod Examples
