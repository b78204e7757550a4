pub mod StepLines
pub mod Decoding
pub mod LiftedTexts
pub mod Stages
pub mod Laws
pub mod Fed
