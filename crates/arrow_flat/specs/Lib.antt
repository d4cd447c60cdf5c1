pub mod Bits
pub mod Builders
pub mod Capacity
pub mod Contents
pub mod Dictionaries
pub mod Nested
pub mod Nodes
pub mod Normalized
