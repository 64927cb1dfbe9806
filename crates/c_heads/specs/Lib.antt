pub mod By
pub mod Head
pub mod Refuse
