pub mod Lines
pub mod TextSizes
pub mod SixLines
pub mod ReportedRings
pub mod GenOutcomes
