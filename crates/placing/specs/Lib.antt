pub mod Placing
pub mod Stands
