pub mod Numbers
pub mod Breaks
