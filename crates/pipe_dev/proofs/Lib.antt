pub mod PartLemmas
pub mod OutcomeLemmas
mod RunLemmas
mod ForeverLemmas
pub mod AskedLemmas
pub mod LawLemmas
mod RoundLemmas
mod LongLemmas
pub mod SeatingLemmas
pub mod FinishLemmas
pub mod ReadingLemmas
pub mod FillLemmas
pub mod ModeLemmas
mod CallLemmas
pub mod WrittenLemmas
pub mod ChainLemmas
pub mod WaitLemmas
pub mod AboveLemmas
mod RunWakeLemmas
pub mod OwnLemmas
pub mod WorkedPipes
pub mod WorkedEntries
pub mod WorkedReads
pub mod WorkedWrites
pub mod WorkedFills
pub mod WorkedStreams
pub mod SideLemmas
pub mod BlockLemmas
pub mod WorkedOpenings
pub mod WorkedEnds
mod WorkedDirections
mod WorkedRuns
mod WorkedChains
mod WorkedSteps
mod WorkedNumbers
