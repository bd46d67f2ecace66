pub mod Files
pub mod Inside
pub mod Numbers
pub mod Start
pub mod State
pub mod Step
pub mod Texts
pub mod Ticks
