pub mod Indices
