pub mod Checks
pub mod Images
