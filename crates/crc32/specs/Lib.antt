pub mod Crc
pub mod Tables
