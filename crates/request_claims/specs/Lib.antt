pub mod Marks
pub mod Requests
