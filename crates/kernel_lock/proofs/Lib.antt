pub mod AcquireKeeps
pub mod DivideKeeps
pub mod EnterKeeps
pub mod MergeKeeps
pub mod MomentLemmas
pub mod OpeningKeeps
pub mod ReleaseKeeps
pub mod RuleLemmas
pub mod SeatLemmas
pub mod ServeLemmas
pub mod SettleKeeps
pub mod SlotLemmas
pub mod SplitLemmas
pub mod PollKeeps
pub mod WorkedLocks
mod WorkedSeats
