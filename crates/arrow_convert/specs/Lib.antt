pub mod Brackets
pub mod Laws
pub mod ReadAgain
