pub mod Charts
pub mod Rounds
pub mod Cases
pub mod Witnesses
