pub mod Whole
pub mod Step
pub mod Feed
pub mod Judge
