pub mod Again
pub mod Scan
pub mod Back
pub mod Zeros
pub mod Answers
