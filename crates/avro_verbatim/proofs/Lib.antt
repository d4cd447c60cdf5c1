pub mod Alikes
pub mod Flats
pub mod Numbers
pub mod Values
