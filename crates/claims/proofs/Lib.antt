pub mod Answers
pub mod Standing
pub mod Watching
pub mod Demand1
pub mod Judging
