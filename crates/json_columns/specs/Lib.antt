pub mod Dictionaries
pub mod Faults
pub mod Gathered
pub mod Names
pub mod Records
pub mod Refusals
pub mod Texts
