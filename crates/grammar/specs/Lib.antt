pub mod Choice
pub mod Gram
pub mod Octets
pub mod Number
pub mod Text
pub mod Tables
pub mod Record
pub mod Sentence
