pub mod Rules
pub mod Texts
pub mod FirstFault
pub mod Predictable
pub mod Predictions
pub mod LawsOfTables
