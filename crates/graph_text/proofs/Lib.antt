pub mod Texts
pub mod OpenGraphs
pub mod LinesOf
pub mod Spaces
pub mod GraphTexts
pub mod WholeGraphs
