pub mod Facts
pub mod Sides
pub mod OpenBranches
pub mod Leaves
pub mod Laws
pub mod Subsequences
