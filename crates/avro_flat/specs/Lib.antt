pub mod Decoding
pub mod Growing
