pub mod Frames
pub mod Spellings
pub mod Bounds
pub mod Writes
