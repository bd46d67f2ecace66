pub mod Clauses
pub mod Ticks
