pub mod Answers
pub mod Canonical
pub mod Columns
pub mod Laws
pub mod Rewritten
pub mod Targets
