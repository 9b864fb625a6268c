pub mod Logs
pub mod Refusals
