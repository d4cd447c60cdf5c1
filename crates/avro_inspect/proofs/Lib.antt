pub mod Complete
pub mod Steps
