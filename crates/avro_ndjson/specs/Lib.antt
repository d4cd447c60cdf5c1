pub mod Alone
pub mod Encoder
pub mod Keep
pub mod Laws
pub mod Plan
pub mod Refusals
pub mod Shown
pub mod Taken
