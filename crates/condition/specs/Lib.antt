pub mod Condition
pub mod Table
pub mod Rows
