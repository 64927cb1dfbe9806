pub mod Levels
pub mod Match
pub mod Step
