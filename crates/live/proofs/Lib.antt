pub mod Charts
pub mod Feeding
pub mod Opening
pub mod History
pub mod Standings
