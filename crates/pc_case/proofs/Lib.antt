pub mod Cores
pub mod Values
pub mod Lookups
pub mod ShortNames
pub mod Names
pub mod Pieces
