pub mod NumberRead
