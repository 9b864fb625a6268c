pub mod Codes
pub mod Fed
pub mod Going
