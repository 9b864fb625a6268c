pub mod Besides
pub mod Marking
