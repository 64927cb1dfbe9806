pub mod Parts
pub mod Union
