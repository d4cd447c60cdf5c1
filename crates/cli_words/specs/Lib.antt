pub mod FieldEnd
pub mod Fields
pub mod Names
pub mod Printed
pub mod Stands
pub mod Types
pub mod Words
