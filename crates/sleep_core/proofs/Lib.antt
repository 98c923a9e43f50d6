mod ListLemmas
pub mod Soundness
mod BareLemmas
pub mod ClearLemmas
pub mod RunSteps
mod LocalityLemmas
pub mod EventTableLemmas
pub mod OwnEvents
pub mod CoreInvariant
pub mod Moves
pub mod TokenLemmas
mod Frames
pub mod SleeperKeeps
pub mod LeaverKeeps
pub mod RaiserKeeps
pub mod NotesKeep
pub mod TableMoves
pub mod SizeLemmas
pub mod CoreRuns
pub mod TakesKept
pub mod NoLostWakeup
mod WorkedLimits
mod WorkedPlaces
mod WorkedRuns
pub mod PlacesKept
pub mod SleepPlaceLemmas
pub mod KeptHistory
pub mod OwnWakeups
pub mod OwnCauses
pub mod LostWakeupLemmas
pub mod NewestWakeup
