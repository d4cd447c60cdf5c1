pub mod Flaws
pub mod Laws
pub mod Rows
pub mod Serializing
pub mod Shown
