pub mod Batches
pub mod Blocks
pub mod Fields
pub mod Slots
pub mod Spare
pub mod Sums
pub mod Tables
