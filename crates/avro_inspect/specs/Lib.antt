pub mod Counts
pub mod Laws
pub mod Stated
pub mod Taken
