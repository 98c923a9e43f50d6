pub mod StateLemmas
pub mod PlaceLemmas
pub mod WordMoves
pub mod ViewMoves
pub mod RuleMoves
pub mod StepLemmas
pub mod PutKeeps
pub mod TakeKeeps
pub mod SeatLemmas
pub mod AllSeatsLemmas
pub mod HandKeeps
pub mod OpeningKeeps
pub mod OpeningLemmas
pub mod GatherKeeps
pub mod EmptyingLemmas
pub mod JoiningLemmas
pub mod GatherLemmas
pub mod ObjectLemmas
pub mod MomentLemmas
pub mod WorkedQueue
pub mod WorkedObject
mod WorkedPlaces
mod WorkedGathers
mod WorkedRefusals
mod WorkedRule
mod WorkedSteps
