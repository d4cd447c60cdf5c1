pub mod Parts
pub mod Standing
pub mod Skips
pub mod Fields
pub mod Names
