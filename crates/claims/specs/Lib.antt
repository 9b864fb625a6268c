pub mod Demand1
pub mod Watch
pub mod Standing
pub mod Claims
