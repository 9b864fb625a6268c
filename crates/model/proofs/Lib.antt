pub mod Lines
pub mod Owned
