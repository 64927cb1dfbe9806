pub mod Handed
pub mod Fitting
