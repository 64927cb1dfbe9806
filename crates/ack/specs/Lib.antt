pub mod AckRead
