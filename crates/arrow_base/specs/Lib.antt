pub mod Joined
pub mod JsonString
pub mod MemorySink
pub mod MemorySource
pub mod Outside
pub mod SteadySource
pub mod Told
pub mod WrittenString
