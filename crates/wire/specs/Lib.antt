pub mod Part
pub mod StringRead
