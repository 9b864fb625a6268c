pub mod Agree
pub mod Counts
pub mod Going
pub mod Parts
pub mod Bytes
pub mod Call
pub mod Only
