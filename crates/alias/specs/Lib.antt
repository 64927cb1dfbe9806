pub mod Table
pub mod Alias
pub mod AliasAnswer
