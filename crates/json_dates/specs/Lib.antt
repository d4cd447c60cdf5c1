pub mod Civil
pub mod Times
