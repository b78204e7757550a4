mod Items
mod KeptSteps
mod LineWords
mod NodeWalk
pub mod SameBranchFacts
mod StepLines
mod StepWalk
