pub mod ColumnLemmas
pub mod Growing
pub mod Items
pub mod Making
pub mod Reading
pub mod RowFields
