pub mod Arcs
pub mod Columns
pub mod Orders
pub mod Searches
pub mod Shown
