pub mod SlotsBelow
pub mod GivenLaws
pub mod Walked
pub mod SlotLaws
pub mod SlotValues
pub mod Ranges
pub mod Terms
