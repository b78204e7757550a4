pub mod WordsOutcomes
pub mod Told
pub mod WrittenStatus
pub mod Headline
pub mod OneVerdict
