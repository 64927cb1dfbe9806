pub mod Item
pub mod Next
