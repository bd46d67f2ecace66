pub mod Pace
