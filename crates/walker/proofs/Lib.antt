pub mod Laws
pub mod Lies
pub mod Theorem
pub mod Calls
