pub mod members
