pub mod Cases
pub mod JoinedLemmas
