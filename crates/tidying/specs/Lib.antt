pub mod Tidied
pub mod Copied
pub mod Way
