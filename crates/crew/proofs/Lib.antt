mod CrewLemmas
mod WorkedLimits
mod WorkedRuns
mod WritingLemmas
mod TallyLemmas
