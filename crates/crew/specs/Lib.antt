pub mod Message
pub mod Tally
pub mod Threads
pub mod Writing
