mod AskLemmas
mod WaitQueueLemmas
mod ReleaseLemmas
mod RequestLemmas
mod SemaLawLemmas
mod SemaLemmas
mod TellLemmas
mod UnitLemmas
mod WokenLemmas
mod WorkedAsking
mod WorkedOpenings
mod WorkedSeats
mod WorkedTimed
mod WorkedUnits
pub mod Broken
