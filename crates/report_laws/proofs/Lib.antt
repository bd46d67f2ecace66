pub mod TooLong
pub mod Texts
pub mod Lines
pub mod Places
pub mod Ticks
pub mod Longest
