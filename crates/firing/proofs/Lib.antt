pub mod Terms
pub mod Skips
pub mod Ready
pub mod Fires
pub mod Walk
