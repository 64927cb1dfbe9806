pub mod Reading
pub mod Item
pub mod Walk
pub mod Writing
pub mod CRows
pub mod OneResult
pub mod OneRows
