pub mod Position
pub mod Nth
pub mod Count
