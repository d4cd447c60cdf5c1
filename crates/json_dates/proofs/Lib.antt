pub mod Arrays
pub mod Calendar
pub mod Days
pub mod NextDay
pub mod Texts
