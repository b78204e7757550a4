pub mod LastOnes
pub mod WithMembers
pub mod Constants
