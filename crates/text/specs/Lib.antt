pub mod Put
pub mod Lines
pub mod Ascii
pub mod Cases
