pub mod Texts
pub mod Judges
pub mod JudgedLines
pub mod Feeds
