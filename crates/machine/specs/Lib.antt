pub mod Answers
pub mod Rows
pub mod WellFormed
pub mod TickRule
pub mod Fresh
pub mod OnePass
