mod Words
pub mod Bridge
pub mod SyntaxFaults
pub mod Places
pub mod Lines
pub mod RowFacts
pub mod ValueFacts
pub mod BuilderFacts
pub mod CleanFacts
pub mod Walk
pub mod OneReading
pub mod Exclusive
pub mod Within
pub mod OneContentFault
pub mod OneFault
mod Decisions
pub mod ContentTotality
pub mod Totality
