pub mod PieceAnswer
