pub mod Answers
pub mod Report
pub mod Example
pub mod Inside
