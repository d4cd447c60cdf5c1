pub mod ArrayLemmas
pub mod LineLemmas
pub mod PassedLemmas
pub mod RowLemmas
