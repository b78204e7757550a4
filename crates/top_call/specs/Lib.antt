pub mod Answers
pub mod Headline
pub mod Runs
pub mod Decides
pub mod Laws
