pub mod GateLemmas
pub mod PartLemmas
pub mod TeamLemmas
