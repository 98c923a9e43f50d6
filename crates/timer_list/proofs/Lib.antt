pub mod AskLemmas
mod EarlierLemmas
mod NoteLemmas
pub mod OwnStepLemmas
mod OwnTimerLemmas
mod TickLemmas
mod TimerLemmas
mod TournamentLemmas
mod WorkedAsking
mod WorkedCalls
mod WorkedOpenings
mod WorkedSeats
mod WorkedTimes
pub mod BrokenTimers
mod TimedLemmas
mod UntimedLemmas
