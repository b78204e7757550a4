pub mod OnResults
pub mod ExtendsLaws
pub mod Back
pub mod Grows
pub mod BitWords
pub mod MeetsWords
pub mod OrInto
