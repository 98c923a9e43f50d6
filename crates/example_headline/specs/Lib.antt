pub mod Crew
pub mod Headline
pub mod Refusals
pub mod Wakes
