pub mod Ends
pub mod Front
pub mod Laws
pub mod ModelFront
pub mod ModelSteps
