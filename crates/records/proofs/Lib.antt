pub mod Laws
pub mod AsNumbers
pub mod Said
pub mod Answered
