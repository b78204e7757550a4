mod Lasts
mod GraphLines
mod TreeLines
mod BodyBegins
mod Firsts
mod Nexts
mod Apart
mod Bytes
pub mod StepNodes
mod Propers
mod Words
mod TakenLines
mod Advances
mod Raws
mod RawStages
mod Shown
mod Judged
mod Verified
mod Outcomes
pub mod Alike
mod OneLines
pub mod OneTexts
mod StepReads
