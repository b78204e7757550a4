pub mod Opens
pub mod Closing
pub mod Rows
pub mod Reads
pub mod Combinations
pub mod Answer
pub mod Laws
