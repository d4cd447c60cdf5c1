pub mod Laws
pub mod Projection
pub mod Reader
