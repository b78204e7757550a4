pub mod Cuts
pub mod Refusals
pub mod JudgedLines
pub mod Feeds
