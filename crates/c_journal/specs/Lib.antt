pub mod Bytes
pub mod Given
