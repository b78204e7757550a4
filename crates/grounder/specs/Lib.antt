pub mod Members
pub mod GroundingOf
pub mod InnerConstants
