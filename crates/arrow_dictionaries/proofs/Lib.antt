pub mod Faults
pub mod Firsts
pub mod Joined
pub mod Steps
pub mod ValueSlots
