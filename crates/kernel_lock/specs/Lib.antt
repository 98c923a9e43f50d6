pub mod Calls
pub mod Definition
pub mod Moments
pub mod Rule
pub mod Seats
pub mod Steppers
pub mod Steps
pub mod View
