pub mod BrokenLemmas
mod CallLemmas
pub mod GroupLemmas
mod GroupMembers
mod GroupNumbers
mod WorkedActions
mod WorkedForks
mod WorkedRosters
