pub mod Verdict
pub mod Parts
