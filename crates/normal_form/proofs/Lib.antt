pub mod JunctionOf
pub mod Joints
pub mod NumberingAfter
