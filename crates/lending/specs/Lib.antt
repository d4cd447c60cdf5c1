pub mod Buffered
pub mod Filling
pub mod Joined
pub mod Lending
