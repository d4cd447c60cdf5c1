pub mod Beneath
pub mod Comparisons
mod Ends
pub mod EntryLaws
pub mod EntryViews
pub mod EqualTypes
