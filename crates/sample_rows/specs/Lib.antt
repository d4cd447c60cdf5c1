pub mod Drawing
pub mod Drawn
pub mod Fields
pub mod Made
pub mod Totals
