mod Words
pub mod Bridge
pub mod SyntaxFaults
pub mod Readings
pub mod OneReading
pub mod OneFault
pub mod Totality
mod Bytes
pub mod Sounds
pub mod CaseFacts
pub mod CaseOps
mod LookUps
mod Loops
mod Walks
pub mod Outcomes
pub mod HeaderLines
