pub mod Given
pub mod Piece
