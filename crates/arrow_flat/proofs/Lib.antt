pub mod Bits
pub mod Contents
pub mod FixedSizes
pub mod ListOffsets
pub mod Slots
