pub mod Taken
pub mod Run
pub mod Given
