pub mod Feeds
pub mod Run
