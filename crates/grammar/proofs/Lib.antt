pub mod Numbers
pub mod Tables
pub mod Bits
pub mod Once
pub mod Utf8
