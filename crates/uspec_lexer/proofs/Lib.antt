mod Names
mod Digits
pub mod Pieces
pub mod SpellsLaws
pub mod Order
pub mod Totality
mod Spans
mod Seen
pub mod Spelling
pub mod Words
