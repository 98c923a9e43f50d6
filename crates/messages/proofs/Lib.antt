pub mod AnswerLemmas
pub mod AskLemmas
pub mod CallLemmas
pub mod LawLemmas
pub mod LineLemmas
pub mod ReceiveLemmas
pub mod ReleaseLemmas
pub mod SendLemmas
pub mod SoundLemmas
mod WorkedQueues
