pub mod Cases
pub mod RoundLemmas
pub mod FoldLemmas
pub mod WakeupLemmas
pub mod RunnerLemmas
mod WorkedRuns
mod WorkedWaits
mod WorkedWakeups
