pub mod SkipLaws
pub mod FoundLaws
pub mod KeyLaws
pub mod NameLaws
pub mod RowLaws
mod KeyTexts
