pub mod HeaderRead
