pub mod FilterRead
