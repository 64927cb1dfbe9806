pub mod Text
pub mod Back
pub mod Put
pub mod Value
