pub mod Encoding
pub mod Indices
