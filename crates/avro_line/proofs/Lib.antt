pub mod Flats
pub mod Items
pub mod KnownSchemas
pub mod Lines
pub mod Members
pub mod RowLines
pub mod Types
