pub mod LineSum
pub mod Players
pub mod Records
pub mod Sum
pub mod Written
