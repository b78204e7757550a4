pub mod Bits
pub mod BitTable
pub mod Trail
