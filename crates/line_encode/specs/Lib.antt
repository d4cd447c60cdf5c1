pub mod Plans
pub mod Makes
pub mod Lines
