pub mod Graphs
pub mod GraphTexts
pub mod OpenGraphs
pub mod GraphReading
pub mod LawsOfGraphs
