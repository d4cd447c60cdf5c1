pub mod Alike
pub mod Begins
pub mod Canonical
