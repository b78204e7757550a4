pub mod Values
pub mod Slots
pub mod Given
pub mod Rows
