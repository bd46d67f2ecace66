pub mod States
pub mod AnswerBytes
pub mod Ends
pub mod FileParts
pub mod Determined
