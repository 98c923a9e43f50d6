pub mod BrokenLemmas
pub mod CheckKeeps
pub mod FlagsLemmas
pub mod IndexLemmas
pub mod KindSteps
pub mod LawLemmas
pub mod LineLemmas
pub mod OpeningKeeps
pub mod ProcessLemmas
pub mod ReceiptLemmas
pub mod ReleasedLemmas
pub mod RunLemmas
pub mod SeatKeeps
pub mod StepAnswers
pub mod StepKeeps
mod WorkedAnswers
mod WorkedRefusals
mod WorkedStates
mod WorkedSteps
pub mod WorkedWords
