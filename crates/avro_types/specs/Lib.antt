pub mod Back
pub mod Columns
pub mod Enlarged
pub mod Inference
pub mod Listed
pub mod Named
pub mod Parts
pub mod Schemas
