pub mod Columns
pub mod Meaning
pub mod Names
pub mod Parts
pub mod Reading
pub mod Whole
