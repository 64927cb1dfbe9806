pub mod Tidy
pub mod Form
pub mod Order
