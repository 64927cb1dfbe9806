pub mod Put
pub mod Behind
pub mod Fitting
