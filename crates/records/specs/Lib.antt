pub mod Ascii
pub mod AsNumbers
pub mod Said
pub mod Answered
