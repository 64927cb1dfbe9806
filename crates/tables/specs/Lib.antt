pub mod Property
pub mod Qos
