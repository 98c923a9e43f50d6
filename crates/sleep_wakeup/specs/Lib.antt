pub mod Broken
pub mod Calls
pub mod Actions
pub mod Forks
pub mod Groups
pub mod Kernel
pub mod Starts
pub mod Status
