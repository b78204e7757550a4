pub mod Chosen
pub mod ModelWith
pub mod Cores
pub mod Choices
pub mod Laws
