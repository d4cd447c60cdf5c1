pub mod Arrays
pub mod Prepared
pub mod Rows
pub mod Serializing
pub mod Written
