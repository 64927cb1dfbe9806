pub mod Nth
