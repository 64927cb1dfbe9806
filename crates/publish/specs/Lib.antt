pub mod PublishRead
pub mod Singles
