pub mod Start
pub mod Inside
