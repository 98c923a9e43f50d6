pub mod MineLemmas
pub mod WakeLemmas
pub mod WaitLemmas
pub mod WriteLemmas
pub mod ReadLemmas
pub mod RefusalLemmas
pub mod CrewLemmas
pub mod EndLemmas
pub mod HeadlineLemmas
pub mod RunLemmas
mod WorkedOutcomes
