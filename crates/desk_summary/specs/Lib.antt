pub mod Count
pub mod Tally
