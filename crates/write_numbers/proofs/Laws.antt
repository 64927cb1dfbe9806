pub mod Put
pub mod Leaf
