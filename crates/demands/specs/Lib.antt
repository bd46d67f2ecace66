pub mod Runs
pub mod Jobs
pub mod Booking
pub mod Demand3
pub mod Starts
