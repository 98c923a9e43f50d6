mod RunLemmas
mod WorkedReports
mod WorkedTasks
