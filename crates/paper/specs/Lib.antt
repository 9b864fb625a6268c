pub mod Runs
pub mod Taken
pub mod Demand2
