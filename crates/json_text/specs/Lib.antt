pub mod Columns
pub mod JsonText
pub mod Refusals
pub mod Unescaped
