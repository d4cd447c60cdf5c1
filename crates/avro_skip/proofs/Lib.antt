pub mod Flats
pub mod Sets
pub mod Signed
pub mod Steps
pub mod Underway
pub mod Unfolded
pub mod Unions
