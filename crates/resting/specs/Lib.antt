pub mod Rest
pub mod Lines
