pub mod Types
pub mod Lines
pub mod Builders
