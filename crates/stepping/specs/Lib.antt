pub mod Answers
pub mod Monitors
pub mod Parts
