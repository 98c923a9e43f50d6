pub mod AccountLemmas
pub mod AloneLemmas
pub mod HistoryLemmas
pub mod ListLemmas
pub mod SeatsKeep
pub mod TimeLemmas
pub mod WorkedHistories
