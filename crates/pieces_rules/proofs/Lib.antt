pub mod Head
pub mod Says
pub mod Seen
pub mod Run
pub mod Feed
pub mod Calls
pub mod Worked
