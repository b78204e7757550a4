pub mod TwoOps
