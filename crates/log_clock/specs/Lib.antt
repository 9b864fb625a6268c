pub mod Clock
pub mod Dated
pub mod Records
pub mod TrueTimes
