pub mod Leaf
pub mod Fixed
