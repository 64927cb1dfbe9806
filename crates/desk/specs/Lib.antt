pub mod Held
pub mod Put
