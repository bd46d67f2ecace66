pub mod Tests
pub mod Searches
pub mod Mask
pub mod Verdicts
pub mod Choice
pub mod Pass
pub mod Turns
