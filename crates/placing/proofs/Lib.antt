pub mod Laws
pub mod Placed
pub mod Stands
pub mod StandsOne
