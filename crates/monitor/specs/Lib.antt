pub mod Stored
pub mod Fit
pub mod Feed
pub mod History
