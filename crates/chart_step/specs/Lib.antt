pub mod Refusal
pub mod Reading
