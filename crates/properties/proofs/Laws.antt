pub mod Fold
pub mod Block
