pub mod Laws
pub mod Computing
pub mod Logs
pub mod Ways
pub mod Shared
pub mod Instances
