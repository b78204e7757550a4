pub mod FrontLaws
pub mod OneTokenFault
pub mod OneModel
pub mod ModelOrFault
pub mod StageTables
pub mod PartsOf
pub mod ShortNames
