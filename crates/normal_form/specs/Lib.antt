pub mod Parts
pub mod Spine
pub mod RowNodes
