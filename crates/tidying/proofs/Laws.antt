pub mod Pass
pub mod Order
pub mod Put
pub mod Frame
