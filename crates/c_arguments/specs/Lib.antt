pub mod Given
pub mod Kind
pub mod UpTo
