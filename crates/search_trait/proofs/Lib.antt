pub mod FoundFronts
